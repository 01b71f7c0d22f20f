use Rattle.automata.proofs.Agrees.{direct_agrees, direct_inside}
use Rattle.automata.proofs.patterns.DirectsAutomaton.decides.Goals as goal

pub returns : goal.returns
returns c = record { decided = direct_agrees; short = direct_inside }
