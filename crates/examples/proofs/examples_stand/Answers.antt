-- Each example is computed.
use Rattle.std.proofs.Common.{refl}
use Rattle.gate.specs.Bitmaps.{bits, bitmap}
use Rattle.gate.specs.Elements.{taken_at, target_at}
use Rattle.gate.specs.Verdicts.{first}
use Rattle.gate.specs.Walks.{some_taken, stop_from}
use Rattle.examples.proofs.examples_stand.Goals as goal

pub returns : goal.returns
unfolding bits bitmap taken_at target_at first some_taken stop_from
returns c = ((refl, refl, refl, refl, refl), ((refl, refl, refl, refl, refl), ((refl, refl, refl, refl, refl), ((refl, refl, refl, refl, refl), ((refl, refl, refl, refl, refl), ((refl, refl, refl, refl, refl), ((refl, refl, refl, refl, refl), ((refl, refl, refl, refl, refl), ((refl, refl, refl, refl, refl), ((refl, refl, refl, refl, refl), ((refl, refl, refl, refl, refl), ((refl, refl, refl, refl, refl), ((refl, refl, refl, refl, refl), ((refl, refl, refl, refl, refl), tt))))))))))))))
