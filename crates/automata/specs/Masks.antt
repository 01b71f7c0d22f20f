-- The states of the pairs: what is still to come.
use Rattle.std.specs.Prelude.{ℕ, ◌+◌, ◌-◌, cond, not, ◌&&◌, ◌||◌, List, [], ◌∷◌, ◌==◌, nat_le, slice_index_or}

pub data State : Type 0 where
  rejecting : State
  accepting : State
  starting : State
  -- the byte that names a register
  naming : State
  -- the byte E0, once a register is named
  masking : ℕ → State
  -- the byte FF
  leaving : ℕ → State
  -- the byte that jumps or calls through that register
  through : ℕ → State

abbrev pub next : State → ℕ → State
next rejecting b = rejecting
next accepting b = rejecting
next starting b = cond (b == 0x83) naming rejecting
next naming b = cond (nat_le 0xE0 b && (nat_le b 0xE7 && not (b == 0xE4))) (masking (b - 0xE0)) rejecting
next (masking r) b = cond (b == 0xE0) (leaving r) rejecting
next (leaving r) b = cond (b == 0xFF) (through r) rejecting
next (through r) b = cond (b == 0xE0 + r || b == 0xD0 + r) accepting rejecting

-- the number of a state
abbrev pub place : State → ℕ
place rejecting = 0
place accepting = 1
place starting = 2
place naming = 3
place (masking r) = 4 + r
place (leaving r) = 12 + r
place (through r) = 20 + r

-- the states in the order of their numbers
abbrev pub states : List State
states =
    rejecting ∷ (accepting ∷ (starting ∷ (naming ∷
    (masking 0 ∷ (masking 1 ∷ (masking 2 ∷ (masking 3 ∷ (masking 4 ∷ (masking 5 ∷ (masking 6 ∷ (masking 7 ∷
    (leaving 0 ∷ (leaving 1 ∷ (leaving 2 ∷ (leaving 3 ∷ (leaving 4 ∷ (leaving 5 ∷ (leaving 6 ∷ (leaving 7 ∷
    (through 0 ∷ (through 1 ∷ (through 2 ∷ (through 3 ∷ (through 4 ∷ (through 5 ∷ (through 6 ∷ (through 7 ∷ [])))))))))))))))))))))))))))

-- the rule of the table of pairs
unfoldable pub pair_next : ℕ → ℕ → ℕ
pair_next s b = place (next (slice_index_or states s rejecting) b)
