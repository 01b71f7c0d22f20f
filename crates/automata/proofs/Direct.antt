-- The run over the table of direct forms answers the length that the grammar gives.
use Rattle.std.proofs.Common.{◌≡◌, ℕ, zero, suc, ◌+◌, ◌-◌, ◌%◌, ◌<◌, ◌≤◌, Bool, true, false, cond, eqb, leb, List, [], ◌∷◌, length, get_or, Some, None, Option, refl, ap, ◌∙◌, arith}
use Rattle.std.specs.Option.{option_map}
use Rattle.x86.specs.declared.registers.Width.{Width}
use Rattle.x86.specs.declared.registers.Width.TheVariants.{Byte, Long}
use Rattle.x86.specs.declared.registers.SegmentRegister.{SegmentRegister}
use Rattle.x86.specs.declared.operands.RegisterOrMemory.{RegisterOrMemory}
use Rattle.x86.specs.declared.operands.RegisterOrMemory.TheVariants.{Register, Memory}
use Rattle.x86.specs.declared.instructions.Straight.{Straight as StraightForm}
use Rattle.x86.specs.declared.instructions.Direct.{Direct as DirectForm}
use Rattle.x86.specs.declared.instructions.Loose.{Loose as LooseForm}
use Rattle.x86.specs.declared.instructions.Loose.TheVariants as loose
use Rattle.x86.specs.declared.instructions.Instruction.{Instruction}
use Rattle.x86.specs.declared.instructions.Instruction.TheVariants.{Straight, Direct, Loose}
use Rattle.x86.specs.declared.forms.Alone.{Alone as AloneForm}
use Rattle.x86.specs.declared.forms.Alone.TheVariants as alone
use Rattle.x86.specs.declared.forms.WithImmediate.TheVariants as immediate
use Rattle.x86.specs.declared.forms.WithOperand.{WithOperand as OperandForm}
use Rattle.x86.specs.declared.forms.WithOperand.TheVariants as form
use Rattle.x86.specs.declared.forms.WithBoth.{WithBoth as BothForm}
use Rattle.x86.specs.declared.forms.WithBoth.TheVariants as both
use Rattle.x86.specs.declared.forms.Form.{Form}
use Rattle.x86.specs.declared.forms.Form.TheVariants.{Alone, WithImmediate, WithOperand, WithBoth}
use Rattle.x86.specs.Numbers.{register_of, segment_of, width_bytes}
use Rattle.x86.specs.Meanings.{alone_means, operand_means, both_means}
use Rattle.x86.specs.Decoded.{within, form_at, row_at, decoded_at, instruction_of}
use Rattle.x86.specs.Rows as opcodes
use Rattle.x86.specs.Rows.{look_up, one_byte_rows, two_byte_rows}
use Rattle.automata.specs.Lengths.{of_direct}
use Rattle.automata.specs.Runs.{reached, run}
use Rattle.automata.specs.Directs.{State, rejecting, left, second, after, behind_form, behind, next, place, states, direct_next}
use Rattle.automata.proofs.Walked.{goes_on}
use Rattle.automata.proofs.Counted.{fits, fits_suc, fits_one, fits_as, down, counts_down}

-- a state is found at its number
found_left : (n : ℕ) → n < 4 → get_or states (place (left n)) rejecting ≡ left n
found_left zero h = refl
found_left (suc zero) h = refl
found_left (suc (suc zero)) h = refl
found_left (suc (suc (suc zero))) h = refl
found_left (suc (suc (suc (suc n)))) h = absurd (omega arith)

left_next : (n b : ℕ) → n < 4 → direct_next (3 + n) b ≡ down n
unfolding direct_next
left_next zero b h = refl
left_next (suc n) b h = ap (λ (t : State). place (next t b)) (found_left (suc n) h)

-- what a state answers, once the byte that led to it was read
abbrev from : State → List ℕ → Option ℕ
from s bs = reached (place s) (run direct_next (place s) bs)

-- so many bytes of any value
after_run : (n : ℕ) → n < 5 → (b : ℕ) (bs : List ℕ) → from (after n) bs ≡ fits (b ∷ bs) (suc n)
after_run zero h b bs = fits_one b bs
after_run (suc n) h b bs =
    goes_on (place (left n)) (run direct_next (place (left n)) bs) (omega arith) ∙ ap (option_map suc) (counts_down direct_next 4 left_next n (omega arith) bs) ∙ fits_suc b bs (suc n)

few : (w : Width) → width_bytes w ≤ 4
few Byte = omega arith
few Long = omega arith

-- an instruction's length, if it ends inside and is direct
ended : (t : Bool) (i : DirectForm) (n : ℕ) → cond t (Some n) None ≡ of_direct (cond t (Some (instruction_of (Direct i) (n - 0))) None)
ended true i n = ap (λ (m : ℕ). Some m) (omega arith)
ended false i n = refl

direct_ends : (bs : List ℕ) (i : DirectForm) (n : ℕ) → fits bs n ≡ of_direct (within bs 0 (Some (Direct i, n)))
direct_ends bs i n = ended (leb n (length bs)) i n

no_straight : (t : Bool) (i : StraightForm) (n : ℕ) → None ≡ of_direct (cond t (Some (instruction_of (Straight i) n)) None)
no_straight true i n = refl
no_straight false i n = refl

no_loose : (t : Bool) (i : LooseForm) (n : ℕ) → None ≡ of_direct (cond t (Some (instruction_of (Loose i) n)) None)
no_loose true i n = refl
no_loose false i n = refl

module _ (bs : List ℕ) (q : ℕ) where
  through_by : (n : ℕ) (s t : Bool) →
      None ≡ of_direct (within bs 0 (option_map {U = Instruction × ℕ} (λ i. (i, q)) (cond s (Some (Loose (loose.Call (register_of n)))) (cond t (Some (Loose (loose.Jump (register_of n)))) None))))
  through_by n true t = no_loose (leb q (length bs)) (loose.Call (register_of n)) (q - 0)
  through_by n false true = no_loose (leb q (length bs)) (loose.Jump (register_of n)) (q - 0)
  through_by n false false = refl

  segment_by : (n : ℕ) (o : Option SegmentRegister) → None ≡ of_direct (within bs 0 (option_map {U = Instruction × ℕ} (λ i. (i, q)) (option_map (λ s. Loose (loose.LoadSegment s (register_of n))) o)))
  segment_by n None = refl
  segment_by n (Some s) = no_loose (leb q (length bs)) (loose.LoadSegment s (register_of n)) (q - 0)

  -- no form with an operand is direct
  operand_none : (f : OperandForm) (n r : ℕ) (e : RegisterOrMemory) → None ≡ of_direct (within bs 0 (option_map {U = Instruction × ℕ} (λ i. (i, q)) (operand_means f n r e)))
  operand_none (form.Arithmetic w d) n r e = no_straight (leb q (length bs)) _ _
  operand_none (form.Test w) n r e = no_straight (leb q (length bs)) _ _
  operand_none (form.Move w d) n r e = no_straight (leb q (length bs)) _ _
  operand_none form.LoadAddress n r (Register k) = refl
  operand_none form.LoadAddress n r (Memory a) = no_straight (leb q (length bs)) _ _
  operand_none form.Through n r (Register k) = through_by k (eqb r 2) (eqb r 4)
  operand_none form.Through n r (Memory a) = refl
  operand_none form.LoadSegment n r (Register k) = segment_by k (segment_of r)
  operand_none form.LoadSegment n r (Memory a) = refl

  move_none : (i : StraightForm) (t : Bool) → None ≡ of_direct (within bs 0 (option_map {U = Instruction × ℕ} (λ i. (i, q)) (cond t (Some (Straight i)) None)))
  move_none i true = no_straight (leb q (length bs)) i (q - 0)
  move_none i false = refl

  both_none : (f : BothForm) (r : ℕ) (e : RegisterOrMemory) (v : ℕ) → None ≡ of_direct (within bs 0 (option_map {U = Instruction × ℕ} (λ i. (i, q)) (both_means f r e v)))
  both_none (both.Arithmetic w) r e v = no_straight (leb q (length bs)) _ _
  both_none both.SignExtended r e v = no_straight (leb q (length bs)) _ _
  both_none (both.Move w) r e v = move_none _ (eqb r 0)

alone_none : (bs : List ℕ) (f : AloneForm) (n : ℕ) → None ≡ of_direct (within bs 0 (Some (alone_means f n, 1)))
alone_none bs alone.Increment n = no_straight (leb 1 (length bs)) _ _
alone_none bs alone.Decrement n = no_straight (leb 1 (length bs)) _ _
alone_none bs alone.Push n = no_straight (leb 1 (length bs)) _ _
alone_none bs alone.Pop n = no_straight (leb 1 (length bs)) _ _
alone_none bs alone.Nop n = no_straight (leb 1 (length bs)) _ _
alone_none bs alone.Halt n = no_straight (leb 1 (length bs)) _ _
alone_none bs alone.Return n = no_loose (leb 1 (length bs)) _ _

module _ (b : ℕ) (rest : List ℕ) where
  immediate_from : (w : Width) (i : DirectForm) → from (after (width_bytes w)) rest ≡ of_direct (within (b ∷ rest) 0 (Some (Direct i, 1 + width_bytes w)))
  immediate_from w i = after_run (width_bytes w) (omega (arith, few w)) b rest ∙ fits_as (b ∷ rest) _ _ (omega arith) ∙ direct_ends (b ∷ rest) i (1 + width_bytes w)

  form_from : (f : Form) (n : ℕ) → from (behind_form f) rest ≡ of_direct (within (b ∷ rest) 0 (form_at (b ∷ rest) 1 f n))
  form_from (Alone f) n = alone_none (b ∷ rest) f n
  form_from (WithImmediate (immediate.Accumulator w)) n = no_straight (leb (1 + width_bytes w) (length (b ∷ rest))) _ _
  form_from (WithImmediate (immediate.Register w)) n = no_straight (leb (1 + width_bytes w) (length (b ∷ rest))) _ _
  form_from (WithImmediate (immediate.Jump w)) n = immediate_from w _
  form_from (WithImmediate immediate.Call) n = immediate_from Long _
  form_from (WithImmediate (immediate.Conditional w)) n = immediate_from w _
  form_from (WithImmediate immediate.Interrupt) n = no_loose (leb 2 (length (b ∷ rest))) _ _
  form_from (WithOperand f) n = operand_none (b ∷ rest) _ f n _ _
  form_from (WithBoth f) n = both_none (b ∷ rest) _ f _ _ _

  row_from : (o : Option (Form × ℕ)) → from (behind o) rest ≡ of_direct (within (b ∷ rest) 0 (row_at (b ∷ rest) 1 o))
  row_from None = refl
  row_from (Some x) = form_from x.0 x.1

-- behind 0F
second_by : (b c n : ℕ) (rest : List ℕ) (t : Bool) →
    option_map suc (from (behind (cond t (Some (WithImmediate (immediate.Conditional Long), n)) None)) rest)
    ≡ of_direct (within (b ∷ (c ∷ rest)) 0 (row_at (b ∷ (c ∷ rest)) 2 (cond t (Some (WithImmediate (immediate.Conditional Long), n)) None)))
second_by b c n rest true = ap (option_map suc) (after_run 4 (omega arith) c rest) ∙ fits_suc b (c ∷ rest) 5 ∙ direct_ends (b ∷ (c ∷ rest)) _ 6
second_by b c n rest false = refl

second_from : (b : ℕ) (rest : List ℕ) → from second rest ≡ of_direct (within (b ∷ rest) 0 (row_at (b ∷ rest) 2 (look_up two_byte_rows (get_or rest 0 0))))
unfolding direct_next
second_from b [] = refl
second_from b (c ∷ rest) = second_by b c (c % 16) rest (opcodes.fits (opcodes.sixteen 0x80) c)

opened_by : (b : ℕ) (rest : List ℕ) (t : Bool) → from (cond t second (behind (look_up one_byte_rows b))) rest ≡
    of_direct (within (b ∷ rest) 0 (cond t (row_at (b ∷ rest) 2 (look_up two_byte_rows (get_or rest 0 0))) (row_at (b ∷ rest) 1 (look_up one_byte_rows b))))
opened_by b rest true = second_from b rest
opened_by b rest false = row_from b rest (look_up one_byte_rows b)

pub direct_run : (bs : List ℕ) → run direct_next 2 bs ≡ of_direct (decoded_at bs 0)
unfolding direct_next
direct_run [] = refl
direct_run (b ∷ rest) = opened_by b rest (eqb b 0x0F)
