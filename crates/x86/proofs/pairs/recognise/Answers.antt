use Rattle.std.proofs.Common.{Option, sym, subst}
use Rattle.x86.specs.declared.pairs.Pair.{Pair}
use Rattle.x86.specs.Laws.{OnlyPairs}
use Rattle.x86.proofs.Paired.{only_pairs}
use Rattle.x86.proofs.pairs.recognise.Goals as goal

pub returns-clause-only : goal.returns-clause-only
returns-clause-only g c =
    subst (λ (r : Option Pair). OnlyPairs (g.C.Code.bytes c.args.code.now) c.args.at r) (sym c.bounded.ensures.value) (only_pairs (g.C.Code.bytes c.args.code.now) c.args.at)
