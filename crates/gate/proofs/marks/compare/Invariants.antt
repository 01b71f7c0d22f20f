use Rattle.std.proofs.Common.{◌≡◌, ◌-◌, ◌*◌, length}
use Rattle.gate.specs.Bitmaps.{bit_at}
use Rattle.gate.specs.Verdicts.{misplaced}
use Rattle.gate.proofs.Octet.{wrong_from}
use Rattle.gate.proofs.marks.compare.Given as goal

-- what is wrong from here on is what is wrong in all
abbrev pub invariant-loop-i : goal.invariant-loop-i
invariant-loop-i l =
    wrong_from l.starts l.targets l.i (8 * (length l.starts - l.i)) ≡ misplaced (bit_at l.starts) (bit_at l.targets) (8 * length l.starts)
