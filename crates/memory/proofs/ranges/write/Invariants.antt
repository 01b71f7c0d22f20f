use Rattle.std.proofs.Common.{◌≡◌, ◌+◌, ◌<◌, drop}
use Rattle.memory.specs.Ranges.{write_of}
use Rattle.memory.proofs.ranges.write.Given as goal

-- what is left to write, from here, is the whole write; and here is an address
abbrev pub invariant-loop-i : goal.invariant-loop-i
invariant-loop-i g l =
    (write_of (g.M.Memory.meaning l.memory) (l.base + l.i) (drop l.i l.bytes) ≡ write_of (g.M.Memory.meaning l.initial.memory) l.base l.bytes)
    × (l.base + l.i < 4294967296)
