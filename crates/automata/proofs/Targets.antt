-- The displacement of a direct form stands in its last bytes.
use Rattle.std.proofs.Common.{◌≡◌, ℕ, ◌+◌, ◌-◌, ◌%◌, ◌^◌, Bool, true, false, cond, eqb, leb, List, length, get_or, Some, None, Option, sym, refl, ap, ◌∙◌, subst, arith}
use Rattle.std.specs.Option.{option_map}
use Rattle.x86.specs.declared.registers.Width.{Width}
use Rattle.x86.specs.declared.registers.Width.TheVariants.{Byte, Long}
use Rattle.x86.specs.declared.registers.SegmentRegister.{SegmentRegister}
use Rattle.x86.specs.declared.operands.RegisterOrMemory.{RegisterOrMemory}
use Rattle.x86.specs.declared.operands.RegisterOrMemory.TheVariants.{Register, Memory}
use Rattle.x86.specs.declared.instructions.Straight.{Straight as StraightForm}
use Rattle.x86.specs.declared.instructions.Loose.TheVariants as loose
use Rattle.x86.specs.declared.instructions.Instruction.{Instruction}
use Rattle.x86.specs.declared.instructions.Instruction.TheVariants.{Straight, Direct, Loose}
use Rattle.x86.specs.declared.instructions.Decoded.{Decoded}
use Rattle.x86.specs.declared.forms.Alone.{Alone as AloneForm}
use Rattle.x86.specs.declared.forms.Alone.TheVariants as alone
use Rattle.x86.specs.declared.forms.WithImmediate.{WithImmediate as ImmediateForm}
use Rattle.x86.specs.declared.forms.WithImmediate.TheVariants as immediate
use Rattle.x86.specs.declared.forms.WithOperand.{WithOperand as OperandForm}
use Rattle.x86.specs.declared.forms.WithOperand.TheVariants as form
use Rattle.x86.specs.declared.forms.WithBoth.{WithBoth as BothForm}
use Rattle.x86.specs.declared.forms.WithBoth.TheVariants as both
use Rattle.x86.specs.declared.forms.Form.{Form}
use Rattle.x86.specs.declared.forms.Form.TheVariants.{Alone, WithImmediate, WithOperand, WithBoth}
use Rattle.x86.specs.Numbers.{register_of, segment_of, width_bytes}
use Rattle.x86.specs.Meanings.{extended, alone_means, immediate_width, immediate_means, operand_means, both_means}
use Rattle.x86.specs.Decoded.{value_at, form_at, row_at, read_at, within, decoded_at, instruction_of}
use Rattle.x86.specs.Instructions.{displacement_of}
use Rattle.x86.specs.Rows as opcodes
use Rattle.x86.specs.Rows.{look_up, one_byte_rows, two_byte_rows}
use Rattle.automata.specs.Lengths.{target_by_length, if_direct, of_direct, direct_length_of, target_in, direct_target_of, aim_width}

-- only a direct form is in question
abbrev Aims : List ℕ → ℕ → ℕ → Instruction → Type 0
Aims bs q e (Straight i) = Unit {0}
Aims bs q e (Direct i) = (w : Width) × ((e ≡ q + width_bytes w) × (displacement_of i ≡ extended w (value_at w bs q)))
Aims bs q e (Loose i) = Unit {0}

abbrev AimsAll : List ℕ → ℕ → Option (Instruction × ℕ) → Type 0
AimsAll bs q None = Unit {0}
AimsAll bs q (Some x) = Aims bs q x.1 x.0

alone_aims : (bs : List ℕ) (q e n : ℕ) (f : AloneForm) → Aims bs q e (alone_means f n)
alone_aims bs q e n alone.Increment = tt
alone_aims bs q e n alone.Decrement = tt
alone_aims bs q e n alone.Push = tt
alone_aims bs q e n alone.Pop = tt
alone_aims bs q e n alone.Nop = tt
alone_aims bs q e n alone.Halt = tt
alone_aims bs q e n alone.Return = tt

immediate_aims : (bs : List ℕ) (q n : ℕ) (f : ImmediateForm) → Aims bs q (q + width_bytes (immediate_width f)) (immediate_means f n (value_at (immediate_width f) bs q))
immediate_aims bs q n (immediate.Accumulator w) = tt
immediate_aims bs q n (immediate.Register w) = tt
immediate_aims bs q n (immediate.Jump w) = (w, (refl, refl))
immediate_aims bs q n immediate.Call = (Long, (refl, refl))
immediate_aims bs q n (immediate.Conditional w) = (w, (refl, refl))
immediate_aims bs q n immediate.Interrupt = tt

module _ (bs : List ℕ) (q e : ℕ) where
  ended : Option Instruction → Option (Instruction × ℕ)
  ended o = option_map (λ i. (i, e)) o

  through_aims : (k : ℕ) (s t : Bool) → AimsAll bs q (ended (cond s (Some (Loose (loose.Call (register_of k)))) (cond t (Some (Loose (loose.Jump (register_of k)))) None)))
  unfolding ended
  through_aims k true t = tt
  through_aims k false true = tt
  through_aims k false false = tt

  segment_aims : (k : ℕ) (o : Option SegmentRegister) → AimsAll bs q (ended (option_map (λ s. Loose (loose.LoadSegment s (register_of k))) o))
  unfolding ended
  segment_aims k None = tt
  segment_aims k (Some s) = tt

  operand_aims : (f : OperandForm) (n r : ℕ) (o : RegisterOrMemory) → AimsAll bs q (ended (operand_means f n r o))
  unfolding ended
  operand_aims (form.Arithmetic w d) n r o = tt
  operand_aims (form.Test w) n r o = tt
  operand_aims (form.Move w d) n r o = tt
  operand_aims form.LoadAddress n r (Register k) = tt
  operand_aims form.LoadAddress n r (Memory a) = tt
  operand_aims form.Through n r (Register k) = through_aims k (eqb r 2) (eqb r 4)
  operand_aims form.Through n r (Memory a) = tt
  operand_aims form.LoadSegment n r (Register k) = segment_aims k (segment_of r)
  operand_aims form.LoadSegment n r (Memory a) = tt

  move_aims : (i : StraightForm) (t : Bool) → AimsAll bs q (ended (cond t (Some (Straight i)) None))
  unfolding ended
  move_aims i true = tt
  move_aims i false = tt

  both_aims : (f : BothForm) (r : ℕ) (o : RegisterOrMemory) (v : ℕ) → AimsAll bs q (ended (both_means f r o v))
  unfolding ended
  both_aims (both.Arithmetic w) r o v = tt
  both_aims both.SignExtended r o v = tt
  both_aims (both.Move w) r o v = move_aims _ (eqb r 0)

form_aims : (bs : List ℕ) (q : ℕ) (f : Form) (n : ℕ) → AimsAll bs q (form_at bs q f n)
unfolding ended
form_aims bs q (Alone f) n = alone_aims bs q q n f
form_aims bs q (WithImmediate f) n = immediate_aims bs q n f
form_aims bs q (WithOperand f) n = operand_aims bs q _ f n _ _
form_aims bs q (WithBoth f) n = both_aims bs q _ f _ _ _

row_aims : (bs : List ℕ) (q : ℕ) (o : Option (Form × ℕ)) → AimsAll bs q (row_at bs q o)
row_aims bs q None = tt
row_aims bs q (Some x) = form_aims bs q x.0 x.1

-- where the displacement of a direct form of n bytes at p stands
Last : List ℕ → ℕ → ℕ → Instruction → Type 0
Last bs p n (Straight i) = Unit {0}
Last bs p n (Direct i) = displacement_of i ≡ extended (aim_width n) (value_at (aim_width n) bs (p + (n - width_bytes (aim_width n))))
Last bs p n (Loose i) = Unit {0}

one_last : (bs : List ℕ) (p e : ℕ) (i : Instruction) → Aims bs (p + 1) e i → Last bs p (e - p) i
unfolding Last
one_last bs p e (Straight i) a = tt
one_last bs p e (Loose i) a = tt
one_last bs p e (Direct i) (Byte, (h, d)) =
    let n : e - p ≡ 2 = omega arith in
    subst (λ (m : ℕ). displacement_of i ≡ extended (aim_width m) (value_at (aim_width m) bs (p + (m - width_bytes (aim_width m))))) (sym n) d
one_last bs p e (Direct i) (Long, (h, d)) =
    let n : e - p ≡ 5 = omega arith in
    subst (λ (m : ℕ). displacement_of i ≡ extended (aim_width m) (value_at (aim_width m) bs (p + (m - width_bytes (aim_width m))))) (sym n) d

two_last : (bs : List ℕ) (p n : ℕ) (t : Bool) (x : Instruction × ℕ) → row_at bs (p + 2) (cond t (Some (WithImmediate (immediate.Conditional Long), n)) None) ≡ Some x → Last bs p (x.1 - p) x.0
unfolding Last
two_last bs p n false x e = let z : ◌≡◌ {A = ℕ} 0 1 = cc in absurd (omega arith)
two_last bs p n true x e =
    let m : p + 2 + 4 - p ≡ 6 = omega arith in
    let y : ◌≡◌ {A = Instruction × ℕ} (immediate_means (immediate.Conditional Long) n (value_at Long bs (p + 2)), p + 2 + 4) x = cc in
    subst (λ (x : Instruction × ℕ). Last bs p (x.1 - p) x.0) y
    (subst (λ (k : ℕ). value_at Long bs (p + 2) ≡ extended (aim_width k) (value_at (aim_width k) bs (p + (k - width_bytes (aim_width k))))) (sym m) refl)

row_last : (bs : List ℕ) (p : ℕ) (o : Option (Instruction × ℕ)) (x : Instruction × ℕ) → AimsAll bs (p + 1) o → o ≡ Some x → Last bs p (x.1 - p) x.0
row_last bs p None x a e = let z : ◌≡◌ {A = ℕ} 0 1 = cc in absurd (omega arith)
row_last bs p (Some y) x a e =
    let z : y ≡ x = cc in
    subst (λ (x : Instruction × ℕ). Last bs p (x.1 - p) x.0) z (one_last bs p y.1 y.0 a)

read_last : (bs : List ℕ) (p : ℕ) (t : Bool) (x : Instruction × ℕ) →
    cond t (row_at bs (p + 2) (look_up two_byte_rows (get_or bs (p + 1) 0))) (row_at bs (p + 1) (look_up one_byte_rows (get_or bs p 0))) ≡ Some x → Last bs p (x.1 - p) x.0
read_last bs p true x e = two_last bs p (get_or bs (p + 1) 0 % 16) (opcodes.fits (opcodes.sixteen 0x80) (get_or bs (p + 1) 0)) x e
read_last bs p false x e = row_last bs p (row_at bs (p + 1) (look_up one_byte_rows (get_or bs p 0))) x (row_aims bs (p + 1) (look_up one_byte_rows (get_or bs p 0))) e

within_last : (bs : List ℕ) (p : ℕ) (x : Instruction × ℕ) (d : Decoded) (t : Bool) → Last bs p (x.1 - p) x.0 → cond t (Some (instruction_of x.0 (x.1 - p))) None ≡ Some d → Last bs p d.length d.instruction
within_last bs p x d false a e = let z : ◌≡◌ {A = ℕ} 0 1 = cc in absurd (omega arith)
within_last bs p x d true a e =
    let z : instruction_of x.0 (x.1 - p) ≡ d = cc in
    subst (λ (d : Decoded). Last bs p d.length d.instruction) z a

decoded_by : (bs : List ℕ) (p : ℕ) (o : Option (Instruction × ℕ)) (d : Decoded) → read_at bs p ≡ o → within bs p o ≡ Some d → Last bs p d.length d.instruction
decoded_by bs p None d h e = let z : ◌≡◌ {A = ℕ} 0 1 = cc in absurd (omega arith)
decoded_by bs p (Some x) d h e = within_last bs p x d (leb x.1 (length bs)) (read_last bs p (eqb (get_or bs p 0) 0x0F) x h) e

target_by : (bs : List ℕ) (p m n : ℕ) (i : Instruction) → Last bs p m i → if_direct m i ≡ Some n → target_in (Some (instruction_of i m)) p ≡ Some (target_by_length bs p n)
unfolding Last
target_by bs p m n (Straight i) a e = let z : ◌≡◌ {A = ℕ} 0 1 = cc in absurd (omega arith)
target_by bs p m n (Loose i) a e = let z : ◌≡◌ {A = ℕ} 0 1 = cc in absurd (omega arith)
target_by bs p m n (Direct i) a e =
    let z : m ≡ n = cc in
    ap (λ (k : ℕ). Some (((p + m) % 2 ^ 32 + k) % 2 ^ 32)) a ∙ ap (λ (k : ℕ). Some (target_by_length bs p k)) z

target_of_lem : (bs : List ℕ) (p n : ℕ) (o : Option Decoded) → decoded_at bs p ≡ o → of_direct o ≡ Some n → target_in o p ≡ Some (target_by_length bs p n)
target_of_lem bs p n None h e = let z : ◌≡◌ {A = ℕ} 0 1 = cc in absurd (omega arith)
target_of_lem bs p n (Some d) h e = target_by bs p d.length n d.instruction (decoded_by bs p (read_at bs p) d refl h) e

pub target_is : (bs : List ℕ) (p n : ℕ) → direct_length_of bs p ≡ Some n → direct_target_of bs p ≡ Some (target_by_length bs p n)
target_is bs p n e = target_of_lem bs p n (decoded_at bs p) refl e

no_target_by : (m p : ℕ) (i : Instruction) → if_direct m i ≡ None → target_in (Some (instruction_of i m)) p ≡ None
no_target_by m p (Straight i) e = refl
no_target_by m p (Loose i) e = refl
no_target_by m p (Direct i) e = let z : ◌≡◌ {A = ℕ} 0 1 = cc in absurd (omega arith)

no_target_of : (p : ℕ) (o : Option Decoded) → of_direct o ≡ None → target_in o p ≡ None
no_target_of p None e = refl
no_target_of p (Some d) e = no_target_by d.length p d.instruction e

pub no_target : (bs : List ℕ) (p : ℕ) → direct_length_of bs p ≡ None → direct_target_of bs p ≡ None
no_target bs p e = no_target_of p (decoded_at bs p) e
