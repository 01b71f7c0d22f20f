-- What the bytes from a place on mean. Bytes past the end read as 0: a form that would need one does not fit and is
-- refused by its length.
use Rattle.std.specs.Prelude.{ℕ, ◌+◌, ◌-◌, ◌*◌, ◌/◌, ◌%◌, cond, ◌&&◌, List, length, Some, None, Option, ◌==◌, nat_le, slice_index}
use Rattle.std.specs.Option.{option_map}
use Rattle.x86.specs.declared.registers.Register.{Register}
use Rattle.x86.specs.declared.registers.Width.{Width}
use Rattle.x86.specs.declared.registers.Width.TheVariants.{Byte, Long}
use Rattle.x86.specs.declared.operands.Address.{Address}
use Rattle.x86.specs.declared.operands.Index.{Index}
use Rattle.x86.specs.declared.operands.RegisterOrMemory.{RegisterOrMemory}
use Rattle.x86.specs.declared.operands.RegisterOrMemory.TheVariants as named
use Rattle.x86.specs.declared.operands.Modrm.{Modrm}
use Rattle.x86.specs.declared.instructions.Instruction.{Instruction}
use Rattle.x86.specs.declared.instructions.Decoded.{Decoded}
use Rattle.x86.specs.declared.forms.Form.{Form}
use Rattle.x86.specs.declared.forms.Form.TheVariants.{Alone, WithImmediate, WithOperand, WithBoth}
use Rattle.x86.specs.Numbers.{register_of, scale_of, width_bytes}
use Rattle.x86.specs.Rows.{look_up, one_byte_rows, two_byte_rows}
use Rattle.x86.specs.Meanings.{extended, alone_means, immediate_width, immediate_means, operand_means, both_width, both_means}

-- four bytes, lowest first
abbrev pub long_at : List ℕ → ℕ → ℕ
long_at bs p = (slice_index bs p + 256 * slice_index bs (p + 1)) + 65536 * (slice_index bs (p + 2) + 256 * slice_index bs (p + 3))

abbrev pub value_at : Width → List ℕ → ℕ → ℕ
value_at Byte bs p = slice_index bs p
value_at Long bs p = long_at bs p

-- the width of the displacement under a mod, beside a base or an rm with this number
abbrev pub displacement_width_of : ℕ → ℕ → Option Width
displacement_width_of m n = cond (m == 1) (Some Byte) (cond (m == 2) (Some Long) (cond (n == 5) (Some Long) None))

-- a displacement, and the place after it
abbrev pub displacement_at : Option Width → List ℕ → ℕ → Option ℕ × ℕ
displacement_at None bs p = (None, p)
displacement_at (Some w) bs p = (Some (extended w (value_at w bs p)), p + width_bytes w)

-- no base where mod is 0 and the number 5: a displacement stands in its place
abbrev pub base_of : ℕ → ℕ → Option Register
base_of m n = cond (m == 0 && n == 5) None (Some (register_of n))

-- the index that a SIB byte's scale and index name: the number 4 is no register
abbrev pub index_of : ℕ → ℕ → Index
index_of s i = record { register = cond (i == 4) None (Some (register_of i)); scale = scale_of s }

abbrev pub address : Option Register → Option Index → Option ℕ → Address
address b i d = record { base = b; index = i; displacement = d }

-- the address under mod and rm, from the place after the ModRM byte on, and the place after it
abbrev pub address_at : List ℕ → ℕ → ℕ → ℕ → Address × ℕ
address_at bs p m rm =
    cond (rm == 4) (
      address (base_of m (slice_index bs p % 8)) (Some (index_of (slice_index bs p / 64) ((slice_index bs p / 8) % 8))) (displacement_at (displacement_width_of m (slice_index bs p % 8)) bs (p + 1)).0,
      (displacement_at (displacement_width_of m (slice_index bs p % 8)) bs (p + 1)).1,
    )
    (address (base_of m rm) None (displacement_at (displacement_width_of m rm) bs p).0, (displacement_at (displacement_width_of m rm) bs p).1)

abbrev pub modrm : ℕ → RegisterOrMemory → ℕ → Modrm
modrm r e n = record { reg = r; operand = e; end = n }

-- a ModRM byte and its operand
abbrev pub modrm_at : List ℕ → ℕ → Modrm
modrm_at bs p =
    cond (nat_le 0xC0 (slice_index bs p))
    (modrm ((slice_index bs p / 8) % 8) (named.Register (slice_index bs p % 8)) (p + 1))
    (modrm ((slice_index bs p / 8) % 8) (named.Memory (address_at bs (p + 1) (slice_index bs p / 64) (slice_index bs p % 8)).0) (address_at bs (p + 1) (slice_index bs p / 64) (slice_index bs p % 8)).1)

-- an instruction of a form, from the place after its opcode on, and the place after it
abbrev pub form_at : List ℕ → ℕ → Form → ℕ → Option (Instruction × ℕ)
form_at bs p (Alone f) n = Some (alone_means f n, p)
form_at bs p (WithImmediate f) n = Some (immediate_means f n (value_at (immediate_width f) bs p), p + width_bytes (immediate_width f))
form_at bs p (WithOperand f) n = option_map (λ i. (i, (modrm_at bs p).end)) (operand_means f n (modrm_at bs p).reg (modrm_at bs p).operand)
form_at bs p (WithBoth f) n =
    option_map (λ i. (i, (modrm_at bs p).end + width_bytes (both_width f)))
    (both_means f (modrm_at bs p).reg (modrm_at bs p).operand (value_at (both_width f) bs (modrm_at bs p).end))

abbrev pub row_at : List ℕ → ℕ → Option (Form × ℕ) → Option (Instruction × ℕ)
row_at bs p None = None
row_at bs p (Some x) = form_at bs p x.0 x.1

abbrev pub read_at : List ℕ → ℕ → Option (Instruction × ℕ)
read_at bs p =
    cond (slice_index bs p == 0x0F) (row_at bs (p + 2) (look_up two_byte_rows (slice_index bs (p + 1))))
    (row_at bs (p + 1) (look_up one_byte_rows (slice_index bs p)))

abbrev pub instruction_of : Instruction → ℕ → Decoded
instruction_of i n = record { instruction = i; length = n }

-- an instruction with its length, if it ends inside the bytes
abbrev pub within : List ℕ → ℕ → Option (Instruction × ℕ) → Option Decoded
within bs p None = None
within bs p (Some x) = cond (nat_le x.1 (length bs)) (Some (instruction_of x.0 (x.1 - p))) None

-- the instruction at a place of the bytes
abbrev pub decoded_at : List ℕ → ℕ → Option Decoded
decoded_at bs p = within bs p (read_at bs p)
