use Rattle.x86.specs.Octets.{Octets}
use Rattle.x86.proofs.code.octets.Given as goal

-- what was read so far is bytes
abbrev pub invariant-loop-i : goal.invariant-loop-i
invariant-loop-i g l = Octets (g.C.Code.bytes l.code) l.from l.i
