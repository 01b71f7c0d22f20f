use Rattle.std.proofs.Common.{◌≡◌, drop}
use Rattle.script.specs.Numbers.{value_of}
use Rattle.script.proofs.numbers.numeral.Given as goal

abbrev pub invariant-loop-character : goal.invariant-loop-character
invariant-loop-character l = value_of l.base l.value (drop l.character-index l.digits) ≡ value_of l.base 0 l.digits
