-- Which way a reading takes behind its first byte.
use Rattle.std.proofs.Common.{◌≡◌, ℕ, ◌+◌, Bool, true, false, cond, eqb, List, get_or, Some, Option, sym, refl, subst, arith, ne_eqb}
use Rattle.x86.specs.declared.instructions.Instruction.{Instruction}
use Rattle.x86.specs.declared.forms.Form.{Form}
use Rattle.x86.specs.Rows.{look_up, one_byte_rows, two_byte_rows}
use Rattle.x86.specs.Decoded.{form_at, row_at, read_at}

otherwise : (bs : List ℕ) (p : ℕ) (b : Bool) (x : Option (Instruction × ℕ)) (o : Option (Form × ℕ)) (f : Form) (n : ℕ) →
    b ≡ false → Some (f, n) ≡ o → cond b x (row_at bs (p + 1) o) ≡ form_at bs (p + 1) f n
otherwise bs p true x o f n e h = let z : ◌≡◌ {A = ℕ} 0 1 = cc in absurd (omega arith)
otherwise bs p false x o f n e h = subst (λ (o : Option (Form × ℕ)). row_at bs (p + 1) o ≡ form_at bs (p + 1) f n) h refl

-- a first byte other than 0F is the whole opcode
pub one_byte : (bs : List ℕ) (p b : ℕ) (f : Form) (n : ℕ) → b ≡ get_or bs p 0 → (b ≡ 15 → ⊥) → Some (f, n) ≡ look_up one_byte_rows b →
    form_at bs (p + 1) f n ≡ read_at bs p
one_byte bs p b f n e k h =
    sym (subst (λ (b : ℕ). cond (eqb b 15) (row_at bs (p + 2) (look_up two_byte_rows (get_or bs (p + 1) 0))) (row_at bs (p + 1) (look_up one_byte_rows b)) ≡ form_at bs (p + 1) f n) e
    (otherwise bs p (eqb b 15) (row_at bs (p + 2) (look_up two_byte_rows (get_or bs (p + 1) 0))) (look_up one_byte_rows b) f n (ne_eqb b 15 k) h))
