use Rattle.automata.proofs.Agrees.{straight_agrees, straight_inside}
use Rattle.automata.proofs.patterns.StraightsAutomaton.decides.Goals as goal

pub returns : goal.returns
returns c = record { decided = straight_agrees; short = straight_inside }
