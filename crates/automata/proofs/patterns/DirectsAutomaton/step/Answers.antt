-- The rule is computed over the whole table.
use Rattle.std.proofs.Common.{◌<◌, rules}
use Rattle.automata.specs.Directs.{direct_next}
use Rattle.automata.proofs.Table.{at}
use Rattle.automata.proofs.Bounded.{direct_bound}
use Rattle.automata.proofs.patterns.DirectsAutomaton.step.Goals as goal

pub returns : goal.returns
unfolding direct_next
returns c =
    let hb : c.args.byte < 256 = search rules in
    let hs : c.args.state < 8 = c.requires in
    let u : Unit {0} = tt in
    record { rule = rw (at direct_next 256); bound = rw (at direct_next 256) (direct_bound _ _ hs hb) }
