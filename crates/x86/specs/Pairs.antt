-- The pair: a register other than ESP is masked and then jumped or called through.
use Rattle.std.specs.Prelude.{ℕ, ◌+◌, ◌-◌, Bool, cond, not, ◌&&◌, List, length, Some, None, Option, ◌==◌, nat_le, slice_index}
use Rattle.x86.specs.declared.registers.Register.{Register}
use Rattle.x86.specs.declared.registers.Operation.TheVariants.{And}
use Rattle.x86.specs.declared.registers.Width.TheVariants.{Long}
use Rattle.x86.specs.declared.operands.Operand.TheVariants as place
use Rattle.x86.specs.declared.operands.Source.TheVariants as source
use Rattle.x86.specs.declared.instructions.Straight.{Straight}
use Rattle.x86.specs.declared.instructions.Straight.TheVariants.{Arithmetic}
use Rattle.x86.specs.declared.instructions.Loose.{Loose}
use Rattle.x86.specs.declared.instructions.Loose.TheVariants as loose
use Rattle.x86.specs.declared.pairs.Transfer.{Transfer}
use Rattle.x86.specs.declared.pairs.Transfer.TheVariants.{Jump, Call}
use Rattle.x86.specs.declared.pairs.Pair.{Pair}
use Rattle.x86.specs.Numbers.{register_of}

abbrev pub pair_of : Register → Transfer → Pair
pair_of r t = record { register = r; transfer = t }

-- the byte 83, a byte that names a register other than ESP, E0, FF
abbrev pub masks : List ℕ → ℕ → Bool
masks bs p =
    (slice_index bs p == 0x83) && (nat_le 0xE0 (slice_index bs (p + 1)) && (nat_le (slice_index bs (p + 1)) 0xE7 && (not (slice_index bs (p + 1) == 0xE4) &&
    (slice_index bs (p + 2) == 0xE0 && slice_index bs (p + 3) == 0xFF))))

-- a jump or a call through the register n
abbrev pub transfer_at : ℕ → ℕ → Option Pair
transfer_at n b =
    cond (b == 0xE0 + n) (Some (pair_of (register_of n) Jump)) (cond (b == 0xD0 + n) (Some (pair_of (register_of n) Call)) None)

-- the pair at a place of the bytes
abbrev pub pair_at : List ℕ → ℕ → Option Pair
pair_at bs p = cond (nat_le (p + 5) (length bs) && masks bs p) (transfer_at (slice_index bs (p + 1) - 0xE0) (slice_index bs (p + 4))) None

-- the first half: AND of the register with the byte E0, extended by its sign
abbrev pub mask_of : Register → Straight
mask_of r = Arithmetic And Long (place.Register r) (source.Immediate 0xFFFFFFE0)

-- the second half: a jump or a call through the register
abbrev pub leave_of : Transfer → Register → Loose
leave_of Jump r = loose.Jump r
leave_of Call r = loose.Call r
