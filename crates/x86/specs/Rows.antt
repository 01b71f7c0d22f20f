-- The opcode map as a list of rows. A new opcode is a new row; where reg or mod decides (80 to 83, 8D, 8E, C6, C7, FF), the
-- form's meaning has a line for each.
use Rattle.std.specs.Prelude.{ℕ, ◌+◌, ◌/◌, ◌%◌, Bool, cond, ◌&&◌, List, [], ◌∷◌, Some, None, Option, ◌==◌, nat_le}
use Rattle.x86.specs.declared.registers.Width.TheVariants.{Byte, Long}
use Rattle.x86.specs.declared.forms.Direction.TheVariants.{IntoOperand, IntoRegister}
use Rattle.x86.specs.declared.forms.Alone.TheVariants as alone
use Rattle.x86.specs.declared.forms.WithImmediate.TheVariants as immediate
use Rattle.x86.specs.declared.forms.WithOperand.TheVariants as operand
use Rattle.x86.specs.declared.forms.WithBoth.TheVariants as both
use Rattle.x86.specs.declared.forms.Form.{Form}
use Rattle.x86.specs.declared.forms.Form.TheVariants.{Alone, WithImmediate, WithOperand, WithBoth}

-- the opcode bytes of a row: one, or several that differ in a number
pub data Opcodes : Type 0 where
  only : ℕ → Opcodes
  -- eight from here on: the low three bits are a register's number
  eight : ℕ → Opcodes
  -- sixteen from here on: the low four bits are a condition's number
  sixteen : ℕ → Opcodes
  -- those of 00 to 3F with these low three bits: bits 5 to 3 are an operation's number
  every_eighth : ℕ → Opcodes

pub record Row : Type 0 where
  pub opcodes : Opcodes
  pub form : Form

abbrev pub row : Opcodes → Form → Row
row o f = record { opcodes = o; form = f }

abbrev pub one_byte_rows : List Row
one_byte_rows =
    row (every_eighth 0) (WithOperand (operand.Arithmetic Byte IntoOperand)) ∷
    (row (every_eighth 1) (WithOperand (operand.Arithmetic Long IntoOperand)) ∷
    (row (every_eighth 2) (WithOperand (operand.Arithmetic Byte IntoRegister)) ∷
    (row (every_eighth 3) (WithOperand (operand.Arithmetic Long IntoRegister)) ∷
    (row (every_eighth 4) (WithImmediate (immediate.Accumulator Byte)) ∷
    (row (every_eighth 5) (WithImmediate (immediate.Accumulator Long)) ∷
    (row (eight 0x40) (Alone alone.Increment) ∷
    (row (eight 0x48) (Alone alone.Decrement) ∷
    (row (eight 0x50) (Alone alone.Push) ∷
    (row (eight 0x58) (Alone alone.Pop) ∷
    (row (sixteen 0x70) (WithImmediate (immediate.Conditional Byte)) ∷
    (row (only 0x80) (WithBoth (both.Arithmetic Byte)) ∷
    (row (only 0x81) (WithBoth (both.Arithmetic Long)) ∷
    (row (only 0x83) (WithBoth both.SignExtended) ∷
    (row (only 0x84) (WithOperand (operand.Test Byte)) ∷
    (row (only 0x85) (WithOperand (operand.Test Long)) ∷
    (row (only 0x88) (WithOperand (operand.Move Byte IntoOperand)) ∷
    (row (only 0x89) (WithOperand (operand.Move Long IntoOperand)) ∷
    (row (only 0x8A) (WithOperand (operand.Move Byte IntoRegister)) ∷
    (row (only 0x8B) (WithOperand (operand.Move Long IntoRegister)) ∷
    (row (only 0x8D) (WithOperand operand.LoadAddress) ∷
    (row (only 0x8E) (WithOperand operand.LoadSegment) ∷
    (row (only 0x90) (Alone alone.Nop) ∷
    (row (eight 0xB0) (WithImmediate (immediate.Register Byte)) ∷
    (row (eight 0xB8) (WithImmediate (immediate.Register Long)) ∷
    (row (only 0xC3) (Alone alone.Return) ∷
    (row (only 0xC6) (WithBoth (both.Move Byte)) ∷
    (row (only 0xC7) (WithBoth (both.Move Long)) ∷
    (row (only 0xCD) (WithImmediate immediate.Interrupt) ∷
    (row (only 0xE8) (WithImmediate immediate.Call) ∷
    (row (only 0xE9) (WithImmediate (immediate.Jump Long)) ∷
    (row (only 0xEB) (WithImmediate (immediate.Jump Byte)) ∷
    (row (only 0xF4) (Alone alone.Halt) ∷
    (row (only 0xFF) (WithOperand operand.Through) ∷
    [])))))))))))))))))))))))))))))))))

-- behind the byte 0F
abbrev pub two_byte_rows : List Row
two_byte_rows = row (sixteen 0x80) (WithImmediate (immediate.Conditional Long)) ∷ []

-- whether a byte is one of a row's opcodes
abbrev pub fits : Opcodes → ℕ → Bool
fits (only o) b = b == o
fits (eight o) b = nat_le o b && nat_le b (o + 7)
fits (sixteen o) b = nat_le o b && nat_le b (o + 15)
fits (every_eighth t) b = nat_le b 0x3F && b % 8 == t

-- the number in an opcode of a row
abbrev pub number_in : Opcodes → ℕ → ℕ
number_in (only o) b = 0
number_in (eight o) b = b % 8
number_in (sixteen o) b = b % 16
number_in (every_eighth t) b = b / 8

-- the form of the row that has a byte, and the number in that byte
abbrev pub look_up : List Row → ℕ → Option (Form × ℕ)
look_up [] b = None
look_up (r ∷ rs) b = cond (fits r.opcodes b) (Some (r.form, number_in r.opcodes b)) (look_up rs b)
