use Rattle.std.proofs.Common.{◌≡◌, ◌+◌, ◌<◌, ◌≤◌, ◌++◌, length, take, drop}
use Rattle.memory.proofs.ranges.copy.Given as goal

-- the buffer has the bytes so far at its start, and the next has an address
abbrev pub invariant-loop-i : goal.invariant-loop-i
invariant-loop-i g l =
    (l.i ≤ length (drop l.base (g.M.Memory.meaning l.memory).bytes))
    × (l.buffer ≡ take l.i (drop l.base (g.M.Memory.meaning l.memory).bytes) ++ drop l.i l.initial.buffer)
    × (l.base + l.i < 4294967296)
