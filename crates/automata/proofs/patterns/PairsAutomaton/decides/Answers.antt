use Rattle.automata.proofs.Agrees.{pair_agrees, pair_inside}
use Rattle.automata.proofs.patterns.PairsAutomaton.decides.Goals as goal

pub returns : goal.returns
returns c = record { decided = pair_agrees; short = pair_inside }
