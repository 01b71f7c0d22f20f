use Rattle.std.proofs.Common.{◌-◌, ◌/◌}
use Rattle.gate.proofs.Turns.{Walking}
use Rattle.gate.proofs.walks.walk.Given as goal

abbrev pub invariant-loop-at : goal.invariant-loop-at
invariant-loop-at g l = Walking (g.C.Code.bytes l.image.code.now) l.row (l.image.size / 8) l.at l.starts l.targets

abbrev pub decreases-loop-at : goal.decreases-loop-at
decreases-loop-at g l = l.image.size - l.at
