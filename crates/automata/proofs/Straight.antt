-- The run over the table of straight forms answers the length that the grammar gives.
use Rattle.std.proofs.Common.{◌≡◌, ℕ, zero, suc, ◌+◌, ◌-◌, ◌/◌, ◌%◌, ◌<◌, ◌≤◌, Bool, true, false, cond, eqb, leb, List, [], ◌∷◌, length, get_or, Some, None, Option, sym, refl, ap, ◌∙◌, arith}
use Rattle.std.specs.Option.{option_map}
use Rattle.x86.specs.declared.registers.Width.{Width}
use Rattle.x86.specs.declared.registers.Width.TheVariants.{Byte, Long}
use Rattle.x86.specs.declared.registers.SegmentRegister.{SegmentRegister}
use Rattle.x86.specs.declared.operands.Source.TheVariants as source
use Rattle.x86.specs.declared.operands.RegisterOrMemory.{RegisterOrMemory}
use Rattle.x86.specs.declared.operands.RegisterOrMemory.TheVariants.{Register, Memory}
use Rattle.x86.specs.declared.instructions.Straight.{Straight as StraightForm}
use Rattle.x86.specs.declared.instructions.Straight.TheVariants.{LoadAddress, Move}
use Rattle.x86.specs.declared.instructions.Direct.{Direct as DirectForm}
use Rattle.x86.specs.declared.instructions.Loose.{Loose as LooseForm}
use Rattle.x86.specs.declared.instructions.Loose.TheVariants as loose
use Rattle.x86.specs.declared.instructions.Instruction.{Instruction}
use Rattle.x86.specs.declared.instructions.Instruction.TheVariants.{Straight, Direct, Loose}
use Rattle.x86.specs.Numbers.{register_of, segment_of, width_bytes}
use Rattle.x86.specs.declared.forms.Alone.TheVariants as alone
use Rattle.x86.specs.declared.forms.WithImmediate.TheVariants as immediate
use Rattle.x86.specs.declared.forms.WithOperand.TheVariants as form
use Rattle.x86.specs.declared.forms.WithBoth.TheVariants as both
use Rattle.x86.specs.declared.forms.Form.{Form}
use Rattle.x86.specs.declared.forms.Form.TheVariants.{Alone, WithImmediate, WithOperand, WithBoth}
use Rattle.x86.specs.Meanings.{operand_at, through_means, address_means, segment_means}
use Rattle.x86.specs.Decoded.{displacement_width_of, displacement_at, address_at, value_at, modrm_at, within, form_at, row_at, decoded_at, instruction_of}
use Rattle.x86.specs.Rows as opcodes
use Rattle.x86.specs.Rows.{look_up, one_byte_rows, two_byte_rows}
use Rattle.x86.proofs.Complete.{chosen, passed_over}
use Rattle.x86.proofs.Shift.{modrm_next}
use Rattle.x86.specs.declared.operands.Address.{Address}
use Rattle.x86.specs.declared.operands.Modrm.{Modrm}
use Rattle.automata.proofs.Walked.{goes_on}
use Rattle.automata.proofs.Counted.{fits, fits_suc, fits_none, fits_one, fits_as, down, counts_down}
use Rattle.automata.specs.Lengths.{of_straight}
use Rattle.automata.specs.Runs.{reached, run}
use Rattle.automata.specs.Straights.{State, rejecting, accepting, starting, left, operand, address, zeroth, sib, after, bytes_of, behind_form, behind, behind_modrm, next, place, states, straight_next}

-- states that the table has
abbrev pub Good : State → Type 0
Good rejecting = Unit {0}
Good accepting = Unit {0}
Good starting = Unit {0}
Good (left n) = n < 9
Good (operand w) = Unit {0}
Good address = Unit {0}
Good (zeroth w) = Unit {0}
Good (sib w) = Unit {0}

-- a state is found at its number
found : (s : State) → Good s → get_or states (place s) rejecting ≡ s
found rejecting h = refl
found accepting h = refl
found starting h = refl
found (left zero) h = refl
found (left (suc zero)) h = refl
found (left (suc (suc zero))) h = refl
found (left (suc (suc (suc zero)))) h = refl
found (left (suc (suc (suc (suc zero))))) h = refl
found (left (suc (suc (suc (suc (suc zero)))))) h = refl
found (left (suc (suc (suc (suc (suc (suc zero))))))) h = refl
found (left (suc (suc (suc (suc (suc (suc (suc zero)))))))) h = refl
found (left (suc (suc (suc (suc (suc (suc (suc (suc zero))))))))) h = refl
found (left (suc (suc (suc (suc (suc (suc (suc (suc (suc n)))))))))) h = absurd (omega arith)
found (operand None) h = refl
found (operand (Some Byte)) h = refl
found (operand (Some Long)) h = refl
found address h = refl
found (zeroth Byte) h = refl
found (zeroth Long) h = refl
found (sib None) h = refl
found (sib (Some Byte)) h = refl
found (sib (Some Long)) h = refl

-- what a state answers, once the byte that led to it was read
abbrev from : State → List ℕ → Option ℕ
from s bs = reached (place s) (run straight_next (place s) bs)

steps : (s : State) (b : ℕ) (bs : List ℕ) → Good s → run straight_next (place s) (b ∷ bs) ≡ from (next s b) bs
unfolding straight_next
steps s b bs h = ap (λ (t : State). from (next t b) bs) (found s h)

-- a byte of any value leads from left n to after n
left_next : (n b : ℕ) → n < 9 → straight_next (3 + n) b ≡ down n
unfolding straight_next
left_next zero b h = refl
left_next (suc n) b h = ap (λ (t : State). place (next t b)) (found (left (suc n)) h)

left_run : (n : ℕ) → n < 9 → (bs : List ℕ) → run straight_next (place (left n)) bs ≡ fits bs (suc n)
left_run n h bs = counts_down straight_next 9 left_next n h bs

-- so many bytes of any value
after_run : (n : ℕ) → n < 10 → (b : ℕ) (bs : List ℕ) → from (after n) bs ≡ fits (b ∷ bs) (suc n)
after_run zero h b bs = fits_one b bs
after_run (suc n) h b bs =
    goes_on (place (left n)) (run straight_next (place (left n)) bs) (omega arith) ∙ ap (option_map suc) (left_run n (omega arith) bs) ∙ fits_suc b bs (suc n)

few : (w : Option Width) → bytes_of w ≤ 4
few None = omega arith
few (Some Byte) = omega arith
few (Some Long) = omega arith

sib_place : (w : Option Width) → 2 ≤ place (sib w)
sib_place None = omega arith
sib_place (Some Byte) = omega arith
sib_place (Some Long) = omega arith

operand_place : (w : Option Width) → 2 ≤ place (operand w)
operand_place None = omega arith
operand_place (Some Byte) = omega arith
operand_place (Some Long) = omega arith

zeroth_place : (w : Width) → 2 ≤ place (zeroth w)
zeroth_place Byte = omega arith
zeroth_place Long = omega arith

sib_run : (w : Option Width) (b : ℕ) (bs : List ℕ) → run straight_next (place (sib w)) (b ∷ bs) ≡ fits (b ∷ bs) (suc (bytes_of (displacement_width_of 0 (b % 8)) + bytes_of w))
sib_run w b bs =
    steps (sib w) b bs tt ∙ after_run (bytes_of (displacement_width_of 0 (b % 8)) + bytes_of w) (omega (arith, few w, few (displacement_width_of 0 (b % 8)))) b bs

-- where an operand ends
displacement_end : (w : Option Width) (bs : List ℕ) (p : ℕ) → (displacement_at w bs p).1 ≡ p + bytes_of w
displacement_end None bs p = omega arith
displacement_end (Some w) bs p = refl

end_register : (ms : List ℕ) → leb 0xC0 (get_or ms 0 0) ≡ true → (modrm_at ms 0).end ≡ 1
end_register ms e = ap (λ (m : Modrm). m.end) (chosen (leb 0xC0 (get_or ms 0 0)) _ _ _ e refl)

end_memory : (ms : List ℕ) → leb 0xC0 (get_or ms 0 0) ≡ false → (modrm_at ms 0).end ≡ (address_at ms 1 (get_or ms 0 0 / 64) (get_or ms 0 0 % 8)).1
end_memory ms e = ap (λ (m : Modrm). m.end) (passed_over (leb 0xC0 (get_or ms 0 0)) _ _ _ e refl)

end_based : (ms : List ℕ) (m n : ℕ) → eqb n 4 ≡ false → (address_at ms 1 m n).1 ≡ 1 + bytes_of (displacement_width_of m n)
end_based ms m n e = ap (λ (x : Address × ℕ). x.1) (passed_over (eqb n 4) _ _ _ e refl) ∙ displacement_end (displacement_width_of m n) ms 1

end_scaled : (ms : List ℕ) (m n : ℕ) → eqb n 4 ≡ true → (address_at ms 1 m n).1 ≡ 2 + bytes_of (displacement_width_of m (get_or ms 1 0 % 8))
end_scaled ms m n e = ap (λ (x : Address × ℕ). x.1) (chosen (eqb n 4) _ _ _ e refl) ∙ displacement_end (displacement_width_of m (get_or ms 1 0 % 8)) ms 2

-- behind a ModRM byte with a SIB byte under mod 0
sib_fits : (w : Option Width) (m : ℕ) (bs : List ℕ) → from (sib w) bs ≡ fits (m ∷ bs) (2 + bytes_of (displacement_width_of 0 (get_or bs 0 0 % 8)) + bytes_of w)
sib_fits w m [] = goes_on (place (sib w)) None (sib_place w) ∙ ap (option_map suc) (fits_none (suc (bytes_of (displacement_width_of 0 0) + bytes_of w)) (omega arith)) ∙ fits_suc m [] (suc (bytes_of (displacement_width_of 0 0) + bytes_of w)) ∙ fits_as (m ∷ []) _ _ (omega arith)
sib_fits w m (b ∷ bs) =
    goes_on (place (sib w)) (run straight_next (place (sib w)) (b ∷ bs)) (sib_place w) ∙ ap (option_map suc) (sib_run w b bs)
    ∙ fits_suc m (b ∷ bs) (suc (bytes_of (displacement_width_of 0 (b % 8)) + bytes_of w)) ∙ fits_as (m ∷ (b ∷ bs)) _ _ (omega arith)

-- the displacement under a mod that is known
width_one : (m n : ℕ) → eqb m 1 ≡ true → displacement_width_of m n ≡ Some Byte
width_one m n e = chosen (eqb m 1) _ _ _ e refl

width_two : (m n : ℕ) → eqb m 1 ≡ false → eqb m 2 ≡ true → displacement_width_of m n ≡ Some Long
width_two m n e f = passed_over (eqb m 1) _ _ _ e (chosen (eqb m 2) _ _ _ f refl)

width_zero : (m n : ℕ) → eqb m 1 ≡ false → eqb m 2 ≡ false → displacement_width_of m n ≡ displacement_width_of 0 n
width_zero m n e f = passed_over (eqb m 1) _ _ _ e (passed_over (eqb m 2) _ _ _ f refl)

-- the size of an operand, from its ModRM byte on
abbrev pub size : List ℕ → ℕ
size ms = (modrm_at ms 0).end

module _ (w : Option Width) (m : ℕ) (bs : List ℕ) where
  scaled_run : (s t : Bool) → leb 0xC0 m ≡ false → eqb (m % 8) 4 ≡ true → eqb (m / 64) 1 ≡ s → eqb (m / 64) 2 ≡ t →
      from (cond s (after (1 + 1 + bytes_of w)) (cond t (after (1 + 4 + bytes_of w)) (sib w))) bs ≡ fits (m ∷ bs) (size (m ∷ bs) + bytes_of w)
  scaled_run true t r f g h =
      after_run (1 + 1 + bytes_of w) (omega (arith, few w)) m bs
      ∙ fits_as (m ∷ bs) _ _ (omega (arith, end_memory (m ∷ bs) r, end_scaled (m ∷ bs) (m / 64) (m % 8) f, ap bytes_of (width_one (m / 64) (get_or bs 0 0 % 8) g)))
  scaled_run false true r f g h =
      after_run (1 + 4 + bytes_of w) (omega (arith, few w)) m bs
      ∙ fits_as (m ∷ bs) _ _ (omega (arith, end_memory (m ∷ bs) r, end_scaled (m ∷ bs) (m / 64) (m % 8) f, ap bytes_of (width_two (m / 64) (get_or bs 0 0 % 8) g h)))
  scaled_run false false r f g h =
      sib_fits w m bs
      ∙ fits_as (m ∷ bs) _ _ (omega (arith, end_memory (m ∷ bs) r, end_scaled (m ∷ bs) (m / 64) (m % 8) f, ap bytes_of (width_zero (m / 64) (get_or bs 0 0 % 8) g h)))

  memory_run : (t : Bool) → leb 0xC0 m ≡ false → eqb (m % 8) 4 ≡ t →
      from (cond t (cond (eqb (m / 64) 1) (after (1 + 1 + bytes_of w)) (cond (eqb (m / 64) 2) (after (1 + 4 + bytes_of w)) (sib w))) (after (bytes_of (displacement_width_of (m / 64) (m % 8)) + bytes_of w))) bs
      ≡ fits (m ∷ bs) (size (m ∷ bs) + bytes_of w)
  memory_run true r f = scaled_run (eqb (m / 64) 1) (eqb (m / 64) 2) r f refl refl
  memory_run false r f =
      after_run (bytes_of (displacement_width_of (m / 64) (m % 8)) + bytes_of w) (omega (arith, few w, few (displacement_width_of (m / 64) (m % 8)))) m bs
      ∙ fits_as (m ∷ bs) _ _ (omega (arith, end_memory (m ∷ bs) r, end_based (m ∷ bs) (m / 64) (m % 8) f))

  modrm_run_by : (t : Bool) → leb 0xC0 m ≡ t →
      from (cond t (after (bytes_of w)) (cond (eqb (m % 8) 4) (cond (eqb (m / 64) 1) (after (1 + 1 + bytes_of w)) (cond (eqb (m / 64) 2) (after (1 + 4 + bytes_of w)) (sib w))) (after (bytes_of (displacement_width_of (m / 64) (m % 8)) + bytes_of w)))) bs
      ≡ fits (m ∷ bs) (size (m ∷ bs) + bytes_of w)
  modrm_run_by true r = after_run (bytes_of w) (omega (arith, few w)) m bs ∙ fits_as (m ∷ bs) _ _ (omega (arith, end_register (m ∷ bs) r))
  modrm_run_by false r = memory_run (eqb (m % 8) 4) r refl

  modrm_run : from (behind_modrm w m) bs ≡ fits (m ∷ bs) (size (m ∷ bs) + bytes_of w)
  modrm_run = modrm_run_by (leb 0xC0 m) refl

operand_run : (w : Option Width) (ms : List ℕ) → run straight_next (place (operand w)) ms ≡ fits ms (size ms + bytes_of w)
operand_run w [] = fits_none (1 + bytes_of w) (omega arith)
operand_run w (m ∷ bs) = steps (operand w) m bs tt ∙ modrm_run w m bs

-- which operand a ModRM byte names
reg_is : (ms : List ℕ) (t : Bool) → leb 0xC0 (get_or ms 0 0) ≡ t → (modrm_at ms 0).reg ≡ (get_or ms 0 0 / 8) % 8
reg_is ms true e = ap (λ (m : Modrm). m.reg) (chosen (leb 0xC0 (get_or ms 0 0)) _ _ _ e refl)
reg_is ms false e = ap (λ (m : Modrm). m.reg) (passed_over (leb 0xC0 (get_or ms 0 0)) _ _ _ e refl)

names_register : (ms : List ℕ) → leb 0xC0 (get_or ms 0 0) ≡ true → (modrm_at ms 0).operand ≡ Register (get_or ms 0 0 % 8)
names_register ms e = ap (λ (m : Modrm). m.operand) (chosen (leb 0xC0 (get_or ms 0 0)) _ _ _ e refl)

names_memory : (ms : List ℕ) → leb 0xC0 (get_or ms 0 0) ≡ false → (modrm_at ms 0).operand ≡ Memory (address_at ms 1 (get_or ms 0 0 / 64) (get_or ms 0 0 % 8)).0
names_memory ms e = ap (λ (m : Modrm). m.operand) (passed_over (leb 0xC0 (get_or ms 0 0)) _ _ _ e refl)

address_from : (m : ℕ) (bs : List ℕ) (t : Bool) → from (cond t rejecting (behind_modrm None m)) bs ≡ cond t None (fits (m ∷ bs) (size (m ∷ bs)))
address_from m bs true = refl
address_from m bs false = modrm_run None m bs ∙ fits_as (m ∷ bs) _ _ (omega arith)

address_run : (ms : List ℕ) → run straight_next (place address) ms ≡ cond (leb 0xC0 (get_or ms 0 0)) None (fits ms (size ms))
address_run [] = fits_none 1 (omega arith)
address_run (m ∷ bs) = steps address m bs tt ∙ address_from m bs (leb 0xC0 m)

zeroth_from : (w : Width) (m : ℕ) (bs : List ℕ) (t : Bool) → from (cond t (behind_modrm (Some w) m) rejecting) bs ≡ cond t (fits (m ∷ bs) (size (m ∷ bs) + width_bytes w)) None
zeroth_from w m bs true = modrm_run (Some w) m bs
zeroth_from w m bs false = refl

zeroth_run : (w : Width) (ms : List ℕ) → run straight_next (place (zeroth w)) ms ≡ cond (eqb ((get_or ms 0 0 / 8) % 8) 0) (fits ms (size ms + width_bytes w)) None
zeroth_run w [] = fits_none (1 + width_bytes w) (omega arith)
zeroth_run w (m ∷ bs) = steps (zeroth w) m bs tt ∙ zeroth_from w m bs (eqb ((m / 8) % 8) 0)

-- an instruction's length, if it ends inside and is straight
ended : (t : Bool) (i : StraightForm) (n : ℕ) → cond t (Some n) None ≡ of_straight (cond t (Some (instruction_of (Straight i) (n - 0))) None)
ended true i n = ap (λ (m : ℕ). Some m) (omega arith)
ended false i n = refl

straight_ends : (bs : List ℕ) (i : StraightForm) (n : ℕ) → fits bs n ≡ of_straight (within bs 0 (Some (Straight i, n)))
straight_ends bs i n = ended (leb n (length bs)) i n

no_direct : (t : Bool) (i : DirectForm) (n : ℕ) → None ≡ of_straight (cond t (Some (instruction_of (Direct i) n)) None)
no_direct true i n = refl
no_direct false i n = refl

no_loose : (t : Bool) (i : LooseForm) (n : ℕ) → None ≡ of_straight (cond t (Some (instruction_of (Loose i) n)) None)
no_loose true i n = refl
no_loose false i n = refl

-- FF and 8E make no straight form
through_by : (bs : List ℕ) (q n : ℕ) (s t : Bool) →
    None ≡ of_straight (within bs 0 (option_map {U = Instruction × ℕ} (λ i. (i, q)) (cond s (Some (Loose (loose.Call (register_of n)))) (cond t (Some (Loose (loose.Jump (register_of n)))) None))))
through_by bs q n true t = no_loose (leb q (length bs)) (loose.Call (register_of n)) (q - 0)
through_by bs q n false true = no_loose (leb q (length bs)) (loose.Jump (register_of n)) (q - 0)
through_by bs q n false false = refl

through_none : (bs : List ℕ) (q r : ℕ) (e : RegisterOrMemory) → None ≡ of_straight (within bs 0 (option_map {U = Instruction × ℕ} (λ i. (i, q)) (through_means r e)))
through_none bs q r (Register n) = through_by bs q n (eqb r 2) (eqb r 4)
through_none bs q r (Memory a) = refl

segment_by : (bs : List ℕ) (q n : ℕ) (o : Option SegmentRegister) →
    None ≡ of_straight (within bs 0 (option_map {U = Instruction × ℕ} (λ i. (i, q)) (option_map (λ s. Loose (loose.LoadSegment s (register_of n))) o)))
segment_by bs q n None = refl
segment_by bs q n (Some s) = no_loose (leb q (length bs)) (loose.LoadSegment s (register_of n)) (q - 0)

segment_none : (bs : List ℕ) (q r : ℕ) (e : RegisterOrMemory) → None ≡ of_straight (within bs 0 (option_map {U = Instruction × ℕ} (λ i. (i, q)) (segment_means r e)))
segment_none bs q r (Register n) = segment_by bs q n (segment_of r)
segment_none bs q r (Memory a) = refl

module _ (b : ℕ) (rest : List ℕ) where
  -- where the operand behind a one-byte opcode ends
  end_next : (modrm_at (b ∷ rest) 1).end ≡ suc (size rest)
  end_next = ap (λ (m : Modrm). m.end) (modrm_next b rest) ∙ omega arith

  operand_from : (w : Option Width) → from (operand w) rest ≡ fits (b ∷ rest) ((modrm_at (b ∷ rest) 1).end + bytes_of w)
  operand_from w =
      goes_on (place (operand w)) (run straight_next (place (operand w)) rest) (operand_place w) ∙ ap (option_map suc) (operand_run w rest)
      ∙ fits_suc b rest (size rest + bytes_of w) ∙ fits_as (b ∷ rest) _ _ (omega (arith, end_next))

  plain_from : from (operand None) rest ≡ fits (b ∷ rest) (modrm_at (b ∷ rest) 1).end
  plain_from = operand_from None ∙ fits_as (b ∷ rest) _ _ (omega arith)

  -- LEA
  address_by_lem : (t : Bool) → leb 0xC0 (get_or rest 0 0) ≡ t →
      option_map suc (cond t None (fits rest (size rest))) ≡ of_straight (within (b ∷ rest) 0 (option_map {U = Instruction × ℕ} (λ i. (i, (modrm_at (b ∷ rest) 1).end)) (address_means (modrm_at (b ∷ rest) 1).reg (modrm_at (b ∷ rest) 1).operand)))
  address_by_lem true e =
      ap (λ (o : RegisterOrMemory). of_straight (within (b ∷ rest) 0 (option_map {U = Instruction × ℕ} (λ i. (i, (modrm_at (b ∷ rest) 1).end)) (address_means (modrm_at (b ∷ rest) 1).reg o))))
      (sym (ap (λ (m : Modrm). m.operand) (modrm_next b rest) ∙ names_register rest e))
  address_by_lem false e =
      fits_suc b rest (size rest) ∙ fits_as (b ∷ rest) _ _ (sym end_next)
      ∙ straight_ends (b ∷ rest) (LoadAddress (register_of (modrm_at (b ∷ rest) 1).reg) (address_at rest 1 (get_or rest 0 0 / 64) (get_or rest 0 0 % 8)).0) (modrm_at (b ∷ rest) 1).end
      ∙ ap (λ (o : RegisterOrMemory). of_straight (within (b ∷ rest) 0 (option_map {U = Instruction × ℕ} (λ i. (i, (modrm_at (b ∷ rest) 1).end)) (address_means (modrm_at (b ∷ rest) 1).reg o))))
      (sym (ap (λ (m : Modrm). m.operand) (modrm_next b rest) ∙ names_memory rest e))

  -- C6 and C7
  zeroth_by : (w : Width) (i : StraightForm) (t : Bool) → eqb ((get_or rest 0 0 / 8) % 8) 0 ≡ t →
      option_map suc (cond t (fits rest (size rest + width_bytes w)) None) ≡
      of_straight (within (b ∷ rest) 0 (option_map {U = Instruction × ℕ} (λ i. (i, (modrm_at (b ∷ rest) 1).end + width_bytes w)) (cond t (Some (Straight i)) None)))
  zeroth_by w i true e = fits_suc b rest (size rest + width_bytes w) ∙ fits_as (b ∷ rest) _ _ (omega (arith, end_next)) ∙ straight_ends (b ∷ rest) i ((modrm_at (b ∷ rest) 1).end + width_bytes w)
  zeroth_by w i false e = refl

  reg_next : (modrm_at (b ∷ rest) 1).reg ≡ (get_or rest 0 0 / 8) % 8
  reg_next = ap (λ (m : Modrm). m.reg) (modrm_next b rest) ∙ reg_is rest (leb 0xC0 (get_or rest 0 0)) refl

  immediate_from : (w : Width) (i : StraightForm) → from (after (width_bytes w)) rest ≡ of_straight (within (b ∷ rest) 0 (Some (Straight i, 1 + width_bytes w)))
  immediate_from w i = after_run (width_bytes w) (omega (arith, few (Some w))) b rest ∙ fits_as (b ∷ rest) _ _ (omega arith) ∙ straight_ends (b ∷ rest) i (1 + width_bytes w)

  alone_from : (i : StraightForm) → from accepting rest ≡ of_straight (within (b ∷ rest) 0 (Some (Straight i, 1)))
  alone_from i = fits_one b rest ∙ straight_ends (b ∷ rest) i 1

  form_from : (f : Form) (n : ℕ) → from (behind_form f) rest ≡ of_straight (within (b ∷ rest) 0 (form_at (b ∷ rest) 1 f n))
  form_from (Alone alone.Increment) n = alone_from _
  form_from (Alone alone.Decrement) n = alone_from _
  form_from (Alone alone.Push) n = alone_from _
  form_from (Alone alone.Pop) n = alone_from _
  form_from (Alone alone.Nop) n = alone_from _
  form_from (Alone alone.Halt) n = alone_from _
  form_from (Alone alone.Return) n = no_loose (leb 1 (length (b ∷ rest))) _ _
  form_from (WithImmediate (immediate.Accumulator w)) n = immediate_from w _
  form_from (WithImmediate (immediate.Register w)) n = immediate_from w _
  form_from (WithImmediate (immediate.Jump w)) n = no_direct (leb (1 + width_bytes w) (length (b ∷ rest))) _ _
  form_from (WithImmediate immediate.Call) n = no_direct (leb 5 (length (b ∷ rest))) _ _
  form_from (WithImmediate (immediate.Conditional w)) n = no_direct (leb (1 + width_bytes w) (length (b ∷ rest))) _ _
  form_from (WithImmediate immediate.Interrupt) n = no_loose (leb 2 (length (b ∷ rest))) _ _
  form_from (WithOperand (form.Arithmetic w d)) n = plain_from ∙ straight_ends (b ∷ rest) _ (modrm_at (b ∷ rest) 1).end
  form_from (WithOperand (form.Test w)) n = plain_from ∙ straight_ends (b ∷ rest) _ (modrm_at (b ∷ rest) 1).end
  form_from (WithOperand (form.Move w d)) n = plain_from ∙ straight_ends (b ∷ rest) _ (modrm_at (b ∷ rest) 1).end
  form_from (WithOperand form.LoadAddress) n =
      goes_on (place address) (run straight_next (place address) rest) (omega arith) ∙ ap (option_map suc) (address_run rest) ∙ address_by_lem (leb 0xC0 (get_or rest 0 0)) refl
  form_from (WithOperand form.Through) n = through_none (b ∷ rest) (modrm_at (b ∷ rest) 1).end (modrm_at (b ∷ rest) 1).reg (modrm_at (b ∷ rest) 1).operand
  form_from (WithOperand form.LoadSegment) n = segment_none (b ∷ rest) (modrm_at (b ∷ rest) 1).end (modrm_at (b ∷ rest) 1).reg (modrm_at (b ∷ rest) 1).operand
  form_from (WithBoth (both.Arithmetic w)) n = operand_from (Some w) ∙ straight_ends (b ∷ rest) _ ((modrm_at (b ∷ rest) 1).end + width_bytes w)
  form_from (WithBoth both.SignExtended) n = operand_from (Some Byte) ∙ straight_ends (b ∷ rest) _ ((modrm_at (b ∷ rest) 1).end + 1)
  form_from (WithBoth (both.Move w)) n =
      let i : StraightForm = Move w (operand_at w (modrm_at (b ∷ rest) 1).operand) (source.Immediate (value_at w (b ∷ rest) (modrm_at (b ∷ rest) 1).end)) in
      goes_on (place (zeroth w)) (run straight_next (place (zeroth w)) rest) (zeroth_place w) ∙ ap (option_map suc) (zeroth_run w rest)
      ∙ zeroth_by w i (eqb ((get_or rest 0 0 / 8) % 8) 0) refl
      ∙ ap (λ (r : ℕ). of_straight (within (b ∷ rest) 0 (option_map {U = Instruction × ℕ} (λ i. (i, (modrm_at (b ∷ rest) 1).end + width_bytes w)) (cond (eqb r 0) (Some (Straight i)) None)))) (sym reg_next)

  row_from : (o : Option (Form × ℕ)) → from (behind o) rest ≡ of_straight (within (b ∷ rest) 0 (row_at (b ∷ rest) 1 o))
  row_from None = refl
  row_from (Some x) = form_from x.0 x.1

  -- 0F opens direct forms alone
  two_bytes : (n : ℕ) (t : Bool) → None ≡ of_straight (within (b ∷ rest) 0 (row_at (b ∷ rest) 2 (cond t (Some (WithImmediate (immediate.Conditional Long), n)) None)))
  two_bytes n true = no_direct (leb 6 (length (b ∷ rest))) _ _
  two_bytes n false = refl

  opened_by : (t : Bool) → from (cond t rejecting (behind (look_up one_byte_rows b))) rest ≡
      of_straight (within (b ∷ rest) 0 (cond t (row_at (b ∷ rest) 2 (look_up two_byte_rows (get_or rest 0 0))) (row_at (b ∷ rest) 1 (look_up one_byte_rows b))))
  opened_by true = two_bytes (get_or rest 0 0 % 16) (opcodes.fits (opcodes.sixteen 0x80) (get_or rest 0 0))
  opened_by false = row_from (look_up one_byte_rows b)

pub straight_run : (bs : List ℕ) → run straight_next 2 bs ≡ of_straight (decoded_at bs 0)
straight_run [] = refl
straight_run (b ∷ rest) = steps starting b rest tt ∙ opened_by b rest (eqb b 0x0F)
