-- How long the pair, the straight form or the direct form at a place is, by the grammar.
use Rattle.std.specs.Prelude.{ℕ, ◌+◌, ◌-◌, ◌%◌, ◌^◌, cond, List, Some, None, Option, ◌==◌}
use Rattle.x86.specs.declared.instructions.Instruction.{Instruction}
use Rattle.x86.specs.declared.instructions.Instruction.TheVariants.{Straight, Direct, Loose}
use Rattle.x86.specs.declared.instructions.Decoded.{Decoded}
use Rattle.x86.specs.declared.pairs.Pair.{Pair}
use Rattle.x86.specs.Instructions.{target_of}
use Rattle.x86.specs.declared.registers.Width.{Width}
use Rattle.x86.specs.declared.registers.Width.TheVariants.{Byte, Long}
use Rattle.x86.specs.Numbers.{width_bytes}
use Rattle.x86.specs.Meanings.{extended}
use Rattle.x86.specs.Decoded.{value_at, decoded_at}
use Rattle.x86.specs.Pairs.{pair_at}

abbrev pub of_pair : Option Pair → Option ℕ
of_pair None = None
of_pair (Some x) = Some 5

abbrev pub if_straight : ℕ → Instruction → Option ℕ
if_straight n (Straight i) = Some n
if_straight n (Direct i) = None
if_straight n (Loose i) = None

abbrev pub of_straight : Option Decoded → Option ℕ
of_straight None = None
of_straight (Some d) = if_straight d.length d.instruction

abbrev pub if_direct : ℕ → Instruction → Option ℕ
if_direct n (Straight i) = None
if_direct n (Direct i) = Some n
if_direct n (Loose i) = None

abbrev pub of_direct : Option Decoded → Option ℕ
of_direct None = None
of_direct (Some d) = if_direct d.length d.instruction

abbrev pub pair_length_of : List ℕ → ℕ → Option ℕ
pair_length_of bs p = of_pair (pair_at bs p)

abbrev pub straight_length_of : List ℕ → ℕ → Option ℕ
straight_length_of bs p = of_straight (decoded_at bs p)

abbrev pub direct_length_of : List ℕ → ℕ → Option ℕ
direct_length_of bs p = of_direct (decoded_at bs p)

abbrev pub target_in : Option Decoded → ℕ → Option ℕ
target_in None p = None
target_in (Some d) p = target_of d p

-- where the direct form at p goes to
abbrev pub direct_target_of : List ℕ → ℕ → Option ℕ
direct_target_of bs p = target_in (decoded_at bs p) p

-- how wide the displacement of a direct form of n bytes is
abbrev pub aim_width : ℕ → Width
aim_width n = cond (n == 2) Byte Long

-- the displacement of a direct form of n bytes at p: its last bytes
abbrev pub displacement_in : List ℕ → ℕ → ℕ → ℕ
displacement_in bs p n = extended (aim_width n) (value_at (aim_width n) bs (p + (n - width_bytes (aim_width n))))

-- where a direct form of n bytes at p goes to, by its last bytes
abbrev pub target_by_length : List ℕ → ℕ → ℕ → ℕ
target_by_length bs p n = ((p + n) % 2 ^ 32 + displacement_in bs p n) % 2 ^ 32
