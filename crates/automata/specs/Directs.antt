-- The states of the direct forms: what is still to come.
use Rattle.std.specs.Prelude.{ℕ, zero, suc, ◌+◌, cond, List, [], ◌∷◌, Some, None, Option, ◌==◌, slice_index_or}
use Rattle.x86.specs.declared.forms.WithImmediate.{WithImmediate as ImmediateForm}
use Rattle.x86.specs.declared.forms.WithImmediate.TheVariants as immediate
use Rattle.x86.specs.declared.forms.Form.{Form}
use Rattle.x86.specs.declared.forms.Form.TheVariants.{Alone, WithImmediate, WithOperand, WithBoth}
use Rattle.x86.specs.Numbers.{width_bytes}
use Rattle.x86.specs.Rows.{look_up, one_byte_rows, two_byte_rows}

pub data State : Type 0 where
  rejecting : State
  accepting : State
  starting : State
  -- one byte and so many more, of any value
  left : ℕ → State
  -- the second byte of an opcode
  second : State

-- so many bytes of any value
abbrev pub after : ℕ → State
after zero = accepting
after (suc n) = left n

-- behind the opcode of a form; the forms that are not direct are rejected
abbrev pub behind_immediate : ImmediateForm → State
behind_immediate (immediate.Accumulator w) = rejecting
behind_immediate (immediate.Register w) = rejecting
behind_immediate (immediate.Jump w) = after (width_bytes w)
behind_immediate immediate.Call = after 4
behind_immediate (immediate.Conditional w) = after (width_bytes w)
behind_immediate immediate.Interrupt = rejecting

abbrev pub behind_form : Form → State
behind_form (Alone f) = rejecting
behind_form (WithImmediate f) = behind_immediate f
behind_form (WithOperand f) = rejecting
behind_form (WithBoth f) = rejecting

abbrev pub behind : Option (Form × ℕ) → State
behind None = rejecting
behind (Some x) = behind_form x.0

abbrev pub next : State → ℕ → State
next rejecting b = rejecting
next accepting b = rejecting
next starting b = cond (b == 0x0F) second (behind (look_up one_byte_rows b))
next (left n) b = after n
next second b = behind (look_up two_byte_rows b)

-- the number of a state
abbrev pub place : State → ℕ
place rejecting = 0
place accepting = 1
place starting = 2
place (left n) = 3 + n
place second = 7

-- the states in the order of their numbers
abbrev pub states : List State
states = rejecting ∷ (accepting ∷ (starting ∷ (left 0 ∷ (left 1 ∷ (left 2 ∷ (left 3 ∷ (second ∷ [])))))))

-- the rule of the table of direct forms
unfoldable pub direct_next : ℕ → ℕ → ℕ
direct_next s b = place (next (slice_index_or states s rejecting) b)
