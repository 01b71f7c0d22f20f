-- The states of the straight forms: what is still to come.
use Rattle.std.specs.Prelude.{ℕ, zero, suc, ◌+◌, ◌/◌, ◌%◌, cond, List, [], ◌∷◌, Some, None, Option, ◌==◌, nat_le, slice_index_or}
use Rattle.x86.specs.declared.registers.Width.{Width}
use Rattle.x86.specs.declared.registers.Width.TheVariants.{Byte, Long}
use Rattle.x86.specs.declared.forms.Alone.{Alone as AloneForm}
use Rattle.x86.specs.declared.forms.Alone.TheVariants as alone
use Rattle.x86.specs.declared.forms.WithImmediate.{WithImmediate as ImmediateForm}
use Rattle.x86.specs.declared.forms.WithImmediate.TheVariants as immediate
use Rattle.x86.specs.declared.forms.WithOperand.{WithOperand as OperandForm}
use Rattle.x86.specs.declared.forms.WithOperand.TheVariants as form
use Rattle.x86.specs.declared.forms.WithBoth.{WithBoth as BothForm}
use Rattle.x86.specs.declared.forms.WithBoth.TheVariants as both
use Rattle.x86.specs.declared.forms.Form.{Form}
use Rattle.x86.specs.declared.forms.Form.TheVariants.{Alone, WithImmediate, WithOperand, WithBoth}
use Rattle.x86.specs.Numbers.{width_bytes}
use Rattle.x86.specs.Rows.{look_up, one_byte_rows}
use Rattle.x86.specs.Decoded.{displacement_width_of}

pub data State : Type 0 where
  rejecting : State
  accepting : State
  starting : State
  -- one byte and so many more, of any value
  left : ℕ → State
  -- a ModRM byte with its operand, and an immediate
  operand : Option Width → State
  -- a ModRM byte that names memory
  address : State
  -- a ModRM byte with reg 0 and its operand, and an immediate
  zeroth : Width → State
  -- a SIB byte under mod 0, and an immediate
  sib : Option Width → State

-- so many bytes of any value
abbrev pub after : ℕ → State
after zero = accepting
after (suc n) = left n

-- how many bytes a displacement or an immediate has
abbrev pub bytes_of : Option Width → ℕ
bytes_of None = 0
bytes_of (Some w) = width_bytes w

-- behind the opcode of a form; the forms that are not straight are rejected
abbrev pub behind_alone : AloneForm → State
behind_alone alone.Increment = accepting
behind_alone alone.Decrement = accepting
behind_alone alone.Push = accepting
behind_alone alone.Pop = accepting
behind_alone alone.Nop = accepting
behind_alone alone.Halt = accepting
behind_alone alone.Return = rejecting

abbrev pub behind_immediate : ImmediateForm → State
behind_immediate (immediate.Accumulator w) = after (width_bytes w)
behind_immediate (immediate.Register w) = after (width_bytes w)
behind_immediate (immediate.Jump w) = rejecting
behind_immediate immediate.Call = rejecting
behind_immediate (immediate.Conditional w) = rejecting
behind_immediate immediate.Interrupt = rejecting

abbrev pub behind_operand : OperandForm → State
behind_operand (form.Arithmetic w d) = operand None
behind_operand (form.Test w) = operand None
behind_operand (form.Move w d) = operand None
behind_operand form.LoadAddress = address
behind_operand form.Through = rejecting
behind_operand form.LoadSegment = rejecting

abbrev pub behind_both : BothForm → State
behind_both (both.Arithmetic w) = operand (Some w)
behind_both both.SignExtended = operand (Some Byte)
behind_both (both.Move w) = zeroth w

abbrev pub behind_form : Form → State
behind_form (Alone f) = behind_alone f
behind_form (WithImmediate f) = behind_immediate f
behind_form (WithOperand f) = behind_operand f
behind_form (WithBoth f) = behind_both f

abbrev pub behind : Option (Form × ℕ) → State
behind None = rejecting
behind (Some x) = behind_form x.0

-- behind a ModRM byte m of an operand, before an immediate
abbrev pub behind_modrm : Option Width → ℕ → State
behind_modrm w m =
    cond (nat_le 0xC0 m) (after (bytes_of w))
    (cond (m % 8 == 4)
    (cond (m / 64 == 1) (after (1 + 1 + bytes_of w)) (cond (m / 64 == 2) (after (1 + 4 + bytes_of w)) (sib w)))
    (after (bytes_of (displacement_width_of (m / 64) (m % 8)) + bytes_of w)))

abbrev pub next : State → ℕ → State
next rejecting b = rejecting
next accepting b = rejecting
next starting b = cond (b == 0x0F) rejecting (behind (look_up one_byte_rows b))
next (left n) b = after n
next (operand w) b = behind_modrm w b
next address b = cond (nat_le 0xC0 b) rejecting (behind_modrm None b)
next (zeroth w) b = cond ((b / 8) % 8 == 0) (behind_modrm (Some w) b) rejecting
next (sib w) b = after (bytes_of (displacement_width_of 0 (b % 8)) + bytes_of w)

-- the number of a state
abbrev pub place : State → ℕ
place rejecting = 0
place accepting = 1
place starting = 2
place (left n) = 3 + n
place (operand None) = 12
place (operand (Some Byte)) = 13
place (operand (Some Long)) = 14
place address = 15
place (zeroth Byte) = 16
place (zeroth Long) = 17
place (sib None) = 18
place (sib (Some Byte)) = 19
place (sib (Some Long)) = 20

-- the states in the order of their numbers
abbrev pub states : List State
states =
    rejecting ∷ (accepting ∷ (starting ∷
    (left 0 ∷ (left 1 ∷ (left 2 ∷ (left 3 ∷ (left 4 ∷ (left 5 ∷ (left 6 ∷ (left 7 ∷ (left 8 ∷
    (operand None ∷ (operand (Some Byte) ∷ (operand (Some Long) ∷ (address ∷ (zeroth Byte ∷ (zeroth Long ∷
    (sib None ∷ (sib (Some Byte) ∷ (sib (Some Long) ∷ []))))))))))))))))))))

-- the rule of the table of straight forms
unfoldable pub straight_next : ℕ → ℕ → ℕ
straight_next s b = place (next (slice_index_or states s rejecting) b)
