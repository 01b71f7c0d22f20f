-- The rule is computed over the whole table.
use Rattle.std.proofs.Common.{◌<◌, rules}
use Rattle.automata.specs.Masks.{pair_next}
use Rattle.automata.proofs.Table.{at}
use Rattle.automata.proofs.Bounded.{pair_bound}
use Rattle.automata.proofs.patterns.PairsAutomaton.step.Goals as goal

pub returns : goal.returns
unfolding pair_next
returns c =
    let hb : c.args.byte < 256 = search rules in
    let hs : c.args.state < 28 = c.requires in
    let u : Unit {0} = tt in
    record { rule = rw (at pair_next 256); bound = rw (at pair_next 256) (pair_bound _ _ hs hb) }
