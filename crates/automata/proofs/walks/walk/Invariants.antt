use Rattle.std.proofs.Common.{◌≡◌, ◌-◌, ◌<◌, ◌≤◌, drop}
use Rattle.automata.specs.Runs.{run}
use Rattle.automata.proofs.Walked.{plus}
use Rattle.automata.proofs.walks.walk.Given as goal

-- the run from here on, and the bytes so far, are the whole run
abbrev pub invariant-loop-i : goal.invariant-loop-i
invariant-loop-i g l =
    (l.state < g.A.Automaton.states l.automaton) × (l.at ≤ l.i-counter) ×
    (plus (l.i-counter - l.at) (run (g.A.Automaton.next l.automaton) l.state (drop l.i-counter (g.C.Code.bytes l.code)))
    ≡ run (g.A.Automaton.next l.automaton) 2 (drop l.at (g.C.Code.bytes l.code)))
