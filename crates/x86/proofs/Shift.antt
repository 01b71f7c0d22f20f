-- What is read from a place on is what the bytes from there on begin with.
use Rattle.std.proofs.Common.{◌≡◌, ℕ, ◌+◌, ◌-◌, ◌/◌, ◌%◌, ◌≤◌, Bool, true, false, cond, not, ◌&&◌, eqb, leb, List, ◌∷◌, length, get_or, drop, Some, None, Option, sym, refl, ap, ◌∙◌, arith, length-drop, get_or-drop, leb-false, leb-true}
use Rattle.std.specs.Option.{option_map}
use Rattle.x86.specs.declared.registers.Width.{Width}
use Rattle.x86.specs.declared.registers.Width.TheVariants.{Byte, Long}
use Rattle.x86.specs.declared.operands.Address.{Address}
use Rattle.x86.specs.declared.operands.Index.{Index}
use Rattle.x86.specs.declared.operands.Modrm.{Modrm}
use Rattle.x86.specs.declared.operands.RegisterOrMemory.TheVariants.{Register, Memory}
use Rattle.x86.specs.declared.instructions.Instruction.{Instruction}
use Rattle.x86.specs.declared.forms.Form.{Form}
use Rattle.x86.specs.declared.forms.Form.TheVariants.{Alone, WithImmediate, WithOperand, WithBoth}
use Rattle.x86.specs.Numbers.{width_bytes}
use Rattle.x86.specs.Rows.{look_up, one_byte_rows, two_byte_rows}
use Rattle.x86.specs.Meanings.{extended, immediate_width, immediate_means, operand_means, both_width, both_means}
use Rattle.x86.specs.Decoded.{value_at, address, base_of, index_of, displacement_width_of, displacement_at, address_at, modrm, modrm_at, form_at, row_at, read_at, within, decoded_at, instruction_of}
use Rattle.x86.specs.declared.pairs.Pair.{Pair}
use Rattle.x86.specs.Pairs.{transfer_at, pair_at}
use Rattle.x86.proofs.Meets.{read_past}

scaled_at : List ℕ → ℕ → ℕ → ℕ → Address × ℕ
scaled_at xs q m x = (address (base_of m (x % 8)) (Some (index_of (x / 64) ((x / 8) % 8))) (displacement_at (displacement_width_of m (x % 8)) xs q).0, (displacement_at (displacement_width_of m (x % 8)) xs q).1)

module _ (bs : List ℕ) (p : ℕ) where
  shift_byte : (k : ℕ) → get_or bs (p + k) 0 ≡ get_or (drop p bs) k 0
  shift_byte k = sym (get_or-drop p bs k 0)

  shift_place : (k j : ℕ) → get_or bs (p + k + j) 0 ≡ get_or (drop p bs) (k + j) 0
  shift_place k j = ap (λ (q : ℕ). get_or bs q 0) (omega arith) ∙ shift_byte (k + j)

  shift_value : (w : Width) (k : ℕ) → value_at w bs (p + k) ≡ value_at w (drop p bs) k
  shift_value Byte k = shift_byte k
  shift_value Long k = let a = shift_byte k in let b = shift_place k 1 in let c = shift_place k 2 in let d = shift_place k 3 in omega arith

  shift_displacement : (w : Option Width) (k : ℕ) → displacement_at w bs (p + k) ≡ ((displacement_at w (drop p bs) k).0, p + (displacement_at w (drop p bs) k).1)
  shift_displacement None k = refl
  shift_displacement (Some w) k =
      ap (λ (v : ℕ). (Some (extended w v), p + k + width_bytes w)) (shift_value w k) ∙ ap (λ (q : ℕ). (Some (extended w (value_at w (drop p bs) k)), q)) (omega arith)

  moved : Address × ℕ → Address × ℕ
  moved x = (x.0, p + x.1)

  shift_parts : (m n k : ℕ) (x : Option Index) →
      ◌≡◌ {A = Address × ℕ} (address (base_of m n) x (displacement_at (displacement_width_of m n) bs (p + k)).0, (displacement_at (displacement_width_of m n) bs (p + k)).1)
      (address (base_of m n) x (displacement_at (displacement_width_of m n) (drop p bs) k).0, p + (displacement_at (displacement_width_of m n) (drop p bs) k).1)
  shift_parts m n k x = ap (λ (d : Option ℕ × ℕ). (address (base_of m n) x d.0, d.1)) (shift_displacement (displacement_width_of m n) k)

  shift_scaled : (m k : ℕ) → scaled_at bs (p + k + 1) m (get_or bs (p + k) 0) ≡ moved (scaled_at (drop p bs) (k + 1) m (get_or (drop p bs) k 0))
  unfolding scaled_at moved
  shift_scaled m k =
      ap (λ (x : ℕ). scaled_at bs (p + k + 1) m x) (shift_byte k)
      ∙ ap (λ (q : ℕ). scaled_at bs q m (get_or (drop p bs) k 0)) (omega arith)
      ∙ shift_parts m (get_or (drop p bs) k 0 % 8) (k + 1) (Some (index_of (get_or (drop p bs) k 0 / 64) ((get_or (drop p bs) k 0 / 8) % 8)))

  shift_address_by : (m n k : ℕ) (t : Bool) →
      cond t (scaled_at bs (p + k + 1) m (get_or bs (p + k) 0)) (address (base_of m n) None (displacement_at (displacement_width_of m n) bs (p + k)).0, (displacement_at (displacement_width_of m n) bs (p + k)).1)
      ≡ moved (cond t (scaled_at (drop p bs) (k + 1) m (get_or (drop p bs) k 0)) (address (base_of m n) None (displacement_at (displacement_width_of m n) (drop p bs) k).0, (displacement_at (displacement_width_of m n) (drop p bs) k).1))
  unfolding moved
  shift_address_by m n k true = shift_scaled m k
  shift_address_by m n k false = shift_parts m n k None

  shift_address : (m n k : ℕ) → address_at bs (p + k) m n ≡ moved (address_at (drop p bs) k m n)
  unfolding scaled_at moved
  shift_address m n k = shift_address_by m n k (eqb n 4)

  later : Modrm → Modrm
  later m = modrm m.reg m.operand (p + m.end)

  shift_memory : (k x : ℕ) →
      modrm ((x / 8) % 8) (Memory (address_at bs (p + k + 1) (x / 64) (x % 8)).0) (address_at bs (p + k + 1) (x / 64) (x % 8)).1
      ≡ later (modrm ((x / 8) % 8) (Memory (address_at (drop p bs) (k + 1) (x / 64) (x % 8)).0) (address_at (drop p bs) (k + 1) (x / 64) (x % 8)).1)
  unfolding later moved
  shift_memory k x =
      ap (λ (q : ℕ). modrm ((x / 8) % 8) (Memory (address_at bs q (x / 64) (x % 8)).0) (address_at bs q (x / 64) (x % 8)).1) (omega arith)
      ∙ ap (λ (a : Address × ℕ). modrm ((x / 8) % 8) (Memory a.0) a.1) (shift_address (x / 64) (x % 8) (k + 1))

  shift_modrm_by : (k x : ℕ) (t : Bool) →
      cond t (modrm ((x / 8) % 8) (Register (x % 8)) (p + k + 1)) (modrm ((x / 8) % 8) (Memory (address_at bs (p + k + 1) (x / 64) (x % 8)).0) (address_at bs (p + k + 1) (x / 64) (x % 8)).1)
      ≡ later (cond t (modrm ((x / 8) % 8) (Register (x % 8)) (k + 1)) (modrm ((x / 8) % 8) (Memory (address_at (drop p bs) (k + 1) (x / 64) (x % 8)).0) (address_at (drop p bs) (k + 1) (x / 64) (x % 8)).1))
  unfolding later
  shift_modrm_by k x true = ap (λ (q : ℕ). modrm ((x / 8) % 8) (Register (x % 8)) q) (omega arith)
  shift_modrm_by k x false = shift_memory k x

  shift_modrm : (k : ℕ) → modrm_at bs (p + k) ≡ later (modrm_at (drop p bs) k)
  shift_modrm k =
      ap (λ (x : ℕ). cond (leb 0xC0 x) (modrm ((x / 8) % 8) (Register (x % 8)) (p + k + 1)) (modrm ((x / 8) % 8) (Memory (address_at bs (p + k + 1) (x / 64) (x % 8)).0) (address_at bs (p + k + 1) (x / 64) (x % 8)).1)) (shift_byte k)
      ∙ shift_modrm_by k (get_or (drop p bs) k 0) (leb 0xC0 (get_or (drop p bs) k 0))

  further : Option (Instruction × ℕ) → Option (Instruction × ℕ)
  further None = None
  further (Some x) = Some (x.0, p + x.1)

  further_mapped : (o : Option Instruction) (q : ℕ) → option_map {U = Instruction × ℕ} (λ i. (i, p + q)) o ≡ further (option_map (λ i. (i, q)) o)
  unfolding further
  further_mapped None q = refl
  further_mapped (Some i) q = refl

  shift_form : (k : ℕ) (f : Form) (n : ℕ) → form_at bs (p + k) f n ≡ further (form_at (drop p bs) k f n)
  unfolding further later
  shift_form k (Alone f) n = refl
  shift_form k (WithImmediate f) n =
      ap (λ (v : ℕ). Some (immediate_means f n v, p + k + width_bytes (immediate_width f))) (shift_value (immediate_width f) k)
      ∙ ap (λ (q : ℕ). Some (immediate_means f n (value_at (immediate_width f) (drop p bs) k), q)) (omega arith)
  shift_form k (WithOperand f) n =
      ap (λ (m : Modrm). option_map {U = Instruction × ℕ} (λ i. (i, m.end)) (operand_means f n m.reg m.operand)) (shift_modrm k)
      ∙ further_mapped (operand_means f n (modrm_at (drop p bs) k).reg (modrm_at (drop p bs) k).operand) (modrm_at (drop p bs) k).end
  shift_form k (WithBoth f) n =
      ap (λ (m : Modrm). option_map {U = Instruction × ℕ} (λ i. (i, m.end + width_bytes (both_width f))) (both_means f m.reg m.operand (value_at (both_width f) bs m.end))) (shift_modrm k)
      ∙ ap (λ (v : ℕ). option_map {U = Instruction × ℕ} (λ i. (i, p + (modrm_at (drop p bs) k).end + width_bytes (both_width f))) (both_means f (modrm_at (drop p bs) k).reg (modrm_at (drop p bs) k).operand v)) (shift_value (both_width f) (modrm_at (drop p bs) k).end)
      ∙ ap (λ (q : ℕ). option_map {U = Instruction × ℕ} (λ i. (i, q)) (both_means f (modrm_at (drop p bs) k).reg (modrm_at (drop p bs) k).operand (value_at (both_width f) (drop p bs) (modrm_at (drop p bs) k).end))) (omega arith)
      ∙ further_mapped (both_means f (modrm_at (drop p bs) k).reg (modrm_at (drop p bs) k).operand (value_at (both_width f) (drop p bs) (modrm_at (drop p bs) k).end)) ((modrm_at (drop p bs) k).end + width_bytes (both_width f))

  shift_row : (k : ℕ) (o : Option (Form × ℕ)) → row_at bs (p + k) o ≡ further (row_at (drop p bs) k o)
  unfolding further
  shift_row k None = refl
  shift_row k (Some x) = shift_form k x.0 x.1

  further_cond : (t : Bool) (x y : Option (Instruction × ℕ)) → cond t (further x) (further y) ≡ further (cond t x y)
  further_cond true x y = refl
  further_cond false x y = refl

  first_byte : get_or bs p 0 ≡ get_or (drop p bs) 0 0
  first_byte = ap (λ (q : ℕ). get_or bs q 0) (omega arith) ∙ shift_byte 0

  shift_read : read_at bs p ≡ further (read_at (drop p bs) 0)
  shift_read =
      ap (λ (x : ℕ). cond (eqb x 0x0F) (row_at bs (p + 2) (look_up two_byte_rows (get_or bs (p + 1) 0))) (row_at bs (p + 1) (look_up one_byte_rows x))) first_byte
      ∙ ap (λ (x : ℕ). cond (eqb (get_or (drop p bs) 0 0) 0x0F) (row_at bs (p + 2) (look_up two_byte_rows x)) (row_at bs (p + 1) (look_up one_byte_rows (get_or (drop p bs) 0 0)))) (shift_byte 1)
      ∙ ap (λ (x : Option (Instruction × ℕ)). cond (eqb (get_or (drop p bs) 0 0) 0x0F) x (row_at bs (p + 1) (look_up one_byte_rows (get_or (drop p bs) 0 0)))) (shift_row 2 (look_up two_byte_rows (get_or (drop p bs) 1 0)))
      ∙ ap (λ (x : Option (Instruction × ℕ)). cond (eqb (get_or (drop p bs) 0 0) 0x0F) (further (row_at (drop p bs) 2 (look_up two_byte_rows (get_or (drop p bs) 1 0)))) x) (shift_row 1 (look_up one_byte_rows (get_or (drop p bs) 0 0)))
      ∙ further_cond (eqb (get_or (drop p bs) 0 0) 0x0F) (row_at (drop p bs) 2 (look_up two_byte_rows (get_or (drop p bs) 1 0))) (row_at (drop p bs) 1 (look_up one_byte_rows (get_or (drop p bs) 0 0)))

pub same_test : (a b c d : ℕ) (s t : Bool) → leb a b ≡ s → leb c d ≡ t → (a ≤ b → c ≤ d) → (c ≤ d → a ≤ b) → s ≡ t
same_test a b c d true true p q f g = refl
same_test a b c d false false p q f g = refl
same_test a b c d true false p q f g = let h = f (leb-true a b p) in absurd (omega (arith, leb-false c d q))
same_test a b c d false true p q f g = let h = g (leb-true c d q) in absurd (omega (arith, leb-false a b p))

-- a place that is left lies inside what is left
left_inside : (bs : List ℕ) (p e : ℕ) → 1 ≤ e → leb (p + e) (length bs) ≡ leb e (length (drop p bs))
left_inside bs p e h =
    same_test (p + e) (length bs) e (length (drop p bs)) (leb (p + e) (length bs)) (leb e (length (drop p bs))) refl refl
    (λ k. omega (arith, length-drop p bs)) (λ k. omega (arith, length-drop p bs))

shift_within : (bs : List ℕ) (p : ℕ) (x : Option (Instruction × ℕ)) → read_at (drop p bs) 0 ≡ x → within bs p (further bs p x) ≡ within (drop p bs) 0 x
unfolding further
shift_within bs p None h = refl
shift_within bs p (Some x) h =
    let l : 1 ≤ x.1 = read_past (drop p bs) 0 x (eqb (get_or (drop p bs) 0 0) 0x0F) h in
    ap (λ (t : Bool). cond t (Some (instruction_of x.0 (p + x.1 - p))) None) (left_inside bs p x.1 l)
    ∙ ap (λ (n : ℕ). cond (leb x.1 (length (drop p bs))) (Some (instruction_of x.0 n)) None) (omega arith)

-- what stands at p is what the bytes from p on begin with
pub shift_decoded : (bs : List ℕ) (p : ℕ) → decoded_at bs p ≡ decoded_at (drop p bs) 0
shift_decoded bs p = ap (within bs p) (shift_read bs p) ∙ shift_within bs p (read_at (drop p bs) 0) refl

five_bytes : Bool → ℕ → ℕ → ℕ → ℕ → ℕ → Option Pair
five_bytes t a b c d e =
    cond (t && (eqb a 0x83 && (leb 0xE0 b && (leb b 0xE7 && (not (eqb b 0xE4) && (eqb c 0xE0 && eqb d 0xFF)))))) (transfer_at (b - 0xE0) e) None

by_bytes : (t u : Bool) (a b c d e a' b' c' d' e' : ℕ) → t ≡ u → a ≡ a' → b ≡ b' → c ≡ c' → d ≡ d' → e ≡ e' → five_bytes t a b c d e ≡ five_bytes u a' b' c' d' e'
by_bytes t u a b c d e a' b' c' d' e' ht ha hb hc hd he = cc

pub shift_pair : (bs : List ℕ) (p : ℕ) → pair_at bs p ≡ pair_at (drop p bs) 0
unfolding five_bytes
shift_pair bs p =
    by_bytes (leb (p + 5) (length bs)) (leb 5 (length (drop p bs))) (get_or bs p 0) (get_or bs (p + 1) 0) (get_or bs (p + 2) 0) (get_or bs (p + 3) 0) (get_or bs (p + 4) 0)
    (get_or (drop p bs) 0 0) (get_or (drop p bs) 1 0) (get_or (drop p bs) 2 0) (get_or (drop p bs) 3 0) (get_or (drop p bs) 4 0)
    (left_inside bs p 5 (omega arith)) (first_byte bs p) (shift_byte bs p 1) (shift_byte bs p 2) (shift_byte bs p 3) (shift_byte bs p 4)

-- an operand behind one byte more
pub modrm_next : (b : ℕ) (bs : List ℕ) → modrm_at (b ∷ bs) 1 ≡ modrm (modrm_at bs 0).reg (modrm_at bs 0).operand (1 + (modrm_at bs 0).end)
unfolding later
modrm_next b bs = shift_modrm (b ∷ bs) 1 0
