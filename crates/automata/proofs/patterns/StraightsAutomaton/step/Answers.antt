-- The rule is computed over the whole table.
use Rattle.std.proofs.Common.{◌<◌, rules}
use Rattle.automata.specs.Straights.{straight_next}
use Rattle.automata.proofs.Table.{at}
use Rattle.automata.proofs.Bounded.{straight_bound}
use Rattle.automata.proofs.patterns.StraightsAutomaton.step.Goals as goal

pub returns : goal.returns
unfolding straight_next
returns c =
    let hb : c.args.byte < 256 = search rules in
    let hs : c.args.state < 21 = c.requires in
    let u : Unit {0} = tt in
    record { rule = rw (at straight_next 256); bound = rw (at straight_next 256) (straight_bound _ _ hs hb) }
