-- The rows of the opcode map: no two share an opcode, and each opcode of a row is found there. Both are computed once
-- over the whole list.
use Rattle.std.proofs.Common.{◌≡◌, ℕ, zero, suc, ◌<◌, Bool, true, false, cond, not, ◌&&◌, T, eqb, ltb, List, [], ◌∷◌, Some, sym, refl, ap, subst, inl, inr, le_of_suc-le-suc, not-suc-le-zero, eq-or-lt_of_le, arith, eqb→eq, ltb→lt}
use Rattle.x86.specs.declared.forms.Form.{Form}
use Rattle.x86.specs.Rows.{Opcodes, Row, one_byte_rows, two_byte_rows, fits, number_in, look_up}
use Rattle.x86.specs.Grammar.{Among, first, later, count, opcode}
use Rattle.x86.proofs.Complete.{chosen, passed_over}

both_left : (a b : Bool) → T (a && b) → T a
both_left true b t = tt
both_left false b t = t

both_right : (a b : Bool) → T (a && b) → T b
both_right true b t = t
both_right false b t = absurd t

is_true : (a : Bool) → T a → a ≡ true
is_true true t = refl
is_true false t = absurd t

is_false : (a : Bool) → T (not a) → a ≡ false
is_false true t = absurd t
is_false false t = refl

-- a test holds of each number below n
abbrev below : (ℕ → Bool) → ℕ → Bool
below f zero = true
below f (suc n) = f n && below f n

below_at : (f : ℕ → Bool) (n : ℕ) → T (below f n) → (k : ℕ) → k < n → T (f k)
below_at f zero t k h = absurd (not-suc-le-zero h)
below_at f (suc n) t k h =
    elim (eq-or-lt_of_le (le_of_suc-le-suc h)) [ inl e ↦ subst (λ (m : ℕ). T (f m)) (sym e) (both_left (f n) (below f n) t) | inr l ↦ below_at f n (both_right (f n) (below f n) t) k l ]

-- the row has its opcode with the number n, and reads n in it
abbrev own : Opcodes → ℕ → Bool
own o n = fits o (opcode o n) && eqb (number_in o (opcode o n)) n

-- the row o has not the opcode with the number n of another
abbrev misses : Opcodes → Opcodes → ℕ → Bool
misses o other n = not (fits o (opcode other n))

abbrev clear : Opcodes → List Row → Bool
clear o [] = true
clear o (r ∷ rs) = below (misses o r.opcodes) (count r.opcodes) && clear o rs

abbrev apart : List Row → Bool
apart [] = true
apart (r ∷ rs) = below (own r.opcodes) (count r.opcodes) && (clear r.opcodes rs && apart rs)

clear_at : (o : Opcodes) (rs : List Row) (r : Row) (n : ℕ) → T (clear o rs) → Among r rs → n < count r.opcodes → fits o (opcode r.opcodes n) ≡ false
clear_at o _ r n t (first {rs = rs}) h =
    is_false (fits o (opcode r.opcodes n)) (below_at (misses o r.opcodes) (count r.opcodes) (both_left _ (clear o rs) t) n h)
clear_at o _ r n t (later {s = s} {rs = rs} m) h = clear_at o rs r n (both_right (below (misses o s.opcodes) (count s.opcodes)) (clear o rs) t) m h

found : (rs : List Row) (r : Row) (n : ℕ) → T (apart rs) → Among r rs → n < count r.opcodes → look_up rs (opcode r.opcodes n) ≡ Some (r.form, n)
found _ r n t (first {rs = rs}) h =
    let o : T (own r.opcodes n) = below_at (own r.opcodes) (count r.opcodes) (both_left _ (clear r.opcodes rs && apart rs) t) n h in
    chosen (fits r.opcodes (opcode r.opcodes n)) _ _ _ (is_true _ (both_left (fits r.opcodes (opcode r.opcodes n)) (eqb (number_in r.opcodes (opcode r.opcodes n)) n) o))
    (ap (λ (k : ℕ). Some (r.form, k)) (eqb→eq _ n (both_right (fits r.opcodes (opcode r.opcodes n)) (eqb (number_in r.opcodes (opcode r.opcodes n)) n) o)))
found _ r n t (later {s = s} {rs = rs} m) h =
    let u : T (clear s.opcodes rs && apart rs) = both_right (below (own s.opcodes) (count s.opcodes)) (clear s.opcodes rs && apart rs) t in
    passed_over (fits s.opcodes (opcode r.opcodes n)) _ _ _ (clear_at s.opcodes rs r n (both_left (clear s.opcodes rs) (apart rs) u) m h)
    (found rs r n (both_right (clear s.opcodes rs) (apart rs) u) m h)

-- each opcode of a row is found in the map, with its number
pub found_one : (r : Row) (n : ℕ) → Among r one_byte_rows → n < count r.opcodes → look_up one_byte_rows (opcode r.opcodes n) ≡ Some (r.form, n)
found_one r n m h = found one_byte_rows r n tt m h

pub found_two : (r : Row) (n : ℕ) → Among r two_byte_rows → n < count r.opcodes → look_up two_byte_rows (opcode r.opcodes n) ≡ Some (r.form, n)
found_two r n m h = found two_byte_rows r n tt m h

-- 0F is no opcode of the first map
abbrev avoids : List Row → Bool
avoids [] = true
avoids (r ∷ rs) = below (λ n. not (eqb (opcode r.opcodes n) 0x0F)) (count r.opcodes) && avoids rs

avoids_at : (rs : List Row) (r : Row) (n : ℕ) → T (avoids rs) → Among r rs → n < count r.opcodes → eqb (opcode r.opcodes n) 0x0F ≡ false
avoids_at _ r n t (first {rs = rs}) h = is_false _ (below_at (λ n. not (eqb (opcode r.opcodes n) 0x0F)) (count r.opcodes) (both_left _ (avoids rs) t) n h)
avoids_at _ r n t (later {s = s} {rs = rs} m) h = avoids_at rs r n (both_right (below (λ n. not (eqb (opcode s.opcodes n) 0x0F)) (count s.opcodes)) (avoids rs) t) m h

pub not_0f : (r : Row) (n : ℕ) → Among r one_byte_rows → n < count r.opcodes → eqb (opcode r.opcodes n) 0x0F ≡ false
not_0f r n m h = avoids_at one_byte_rows r n tt m h

-- what a look-up found: a row that has the byte as its opcode with that number
pub record Found (rs : List Row) (b : ℕ) (f : Form) (n : ℕ) : Type 0 where
  pub row : Row
  pub listed : Among row rs
  pub form : row.form ≡ f
  pub number : n < count row.opcodes
  pub opens : opcode row.opcodes n ≡ b

-- a byte that a row has is that row's opcode with the number that the row reads in it
abbrev returned : Opcodes → ℕ → Bool
returned o b = cond (fits o b) (eqb (opcode o (number_in o b)) b && ltb (number_in o b) (count o)) true

abbrev lossless : List Row → Bool
lossless [] = true
lossless (r ∷ rs) = below (returned r.opcodes) 256 && lossless rs

returned_at : (o : Opcodes) (b : ℕ) → T (returned o b) → fits o b ≡ true → T (eqb (opcode o (number_in o b)) b && ltb (number_in o b) (count o))
returned_at o b t e = subst (λ (x : Bool). T (cond x (eqb (opcode o (number_in o b)) b && ltb (number_in o b) (count o)) true)) e t

further : (rs : List Row) (s : Row) (b : ℕ) (f : Form) (n : ℕ) → Found rs b f n → Found (s ∷ rs) b f n
further rs s b f n x = record { row = x.row; listed = later x.listed; form = x.form; number = x.number; opens = x.opens }

-- the first row has the byte, or a later one
either_row : (r : Row) (rs : List Row) (b : ℕ) (f : Form) (n : ℕ) (x : Bool) → T (returned r.opcodes b) → (look_up rs b ≡ Some (f, n) → Found rs b f n) →
    fits r.opcodes b ≡ x → cond x (Some (r.form, number_in r.opcodes b)) (look_up rs b) ≡ Some (f, n) → Found (r ∷ rs) b f n
either_row r rs b f n true t rest q e =
    let u = returned_at r.opcodes b t q in
    let z : ◌≡◌ {A = Form × ℕ} (r.form, number_in r.opcodes b) (f, n) = cc in
    let k : number_in r.opcodes b ≡ n = ap (λ (x : Form × ℕ). x.1) z in
    record {
      row = r;
      listed = first;
      form = ap (λ (x : Form × ℕ). x.0) z;
      number = subst (λ (m : ℕ). m < count r.opcodes) k (ltb→lt _ (count r.opcodes) (both_right (eqb (opcode r.opcodes (number_in r.opcodes b)) b) (ltb (number_in r.opcodes b) (count r.opcodes)) u));
      opens = subst (λ (m : ℕ). opcode r.opcodes m ≡ b) k (eqb→eq _ b (both_left (eqb (opcode r.opcodes (number_in r.opcodes b)) b) (ltb (number_in r.opcodes b) (count r.opcodes)) u));
    }
either_row r rs b f n false t rest q e = further rs r b f n (rest e)

looked : (rs : List Row) (b : ℕ) (f : Form) (n : ℕ) → T (lossless rs) → b < 256 → look_up rs b ≡ Some (f, n) → Found rs b f n
looked [] b f n t h e = let z : ◌≡◌ {A = ℕ} 0 1 = cc in absurd (omega arith)
looked (r ∷ rs) b f n t h e =
    either_row r rs b f n (fits r.opcodes b) (below_at (returned r.opcodes) 256 (both_left _ (lossless rs) t) b h)
    (looked rs b f n (both_right (below (returned r.opcodes) 256) (lossless rs) t) h) refl e

pub looked_one : (b : ℕ) (f : Form) (n : ℕ) → b < 256 → look_up one_byte_rows b ≡ Some (f, n) → Found one_byte_rows b f n
looked_one b f n h e = looked one_byte_rows b f n tt h e

pub looked_two : (b : ℕ) (f : Form) (n : ℕ) → b < 256 → look_up two_byte_rows b ≡ Some (f, n) → Found two_byte_rows b f n
looked_two b f n h e = looked two_byte_rows b f n tt h e
