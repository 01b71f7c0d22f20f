-- Bits of numbers, and bitmaps.
use Rattle.std.proofs.Common.{◌≡◌, ℕ, zero, suc, ◌+◌, ◌-◌, ◌*◌, ◌/◌, ◌%◌, ◌^◌, ◌<◌, ◌≤◌, Bool, true, false, cond, ◌||◌, eqb, List, [], ◌∷◌, ◌++◌, length, replicate, sym, refl, ap, ◌∙◌, ⊎_elim, pow-suc, div-one, arith}
use native.Mathlib.Nat.{pow-succ', div-div-eq-div-mul}
use lib.Bits.{bit_or, or_block, or_zero_r}
use Rattle.std.proofs.lemmas.List.{append-nil}
use Rattle.std.proofs.lemmas.Bool.{eq-eqb, ne_eqb, cases_lt, cases_eq}
use Rattle.gate.specs.Bitmaps.{bits, bitmap, marked, bit_at}

-- bits and bitmaps go by the values of f below their size
pub bits_ext : (n : ℕ) (f g : ℕ → Bool) → ((i : ℕ) → i < n → f i ≡ g i) → bits f n ≡ bits g n
unfolding bits
bits_ext zero f g h = refl
bits_ext (suc n) f g h =
    let t : bits (λ i. f (suc i)) n ≡ bits (λ i. g (suc i)) n = bits_ext n (λ i. f (suc i)) (λ i. g (suc i)) (λ i k. h (suc i) (omega arith)) in
    let z : f 0 ≡ g 0 = h 0 (omega arith) in
    rw (t, z) refl

pub bitmap_ext : (k : ℕ) (f g : ℕ → Bool) → ((i : ℕ) → i < 8 * k → f i ≡ g i) → bitmap f k ≡ bitmap g k
unfolding bitmap
bitmap_ext zero f g h = refl
bitmap_ext (suc k) f g h =
    let t : bitmap (λ i. f (8 + i)) k ≡ bitmap (λ i. g (8 + i)) k = bitmap_ext k (λ i. f (8 + i)) (λ i. g (8 + i)) (λ i l. h (8 + i) (omega arith)) in
    let z : bits f 8 ≡ bits g 8 = bits_ext 8 f g (λ i l. h i (omega arith)) in
    rw (t, z) refl

pub length_bitmap : (k : ℕ) (f : ℕ → Bool) → length (bitmap f k) ≡ k
unfolding bitmap
length_bitmap zero f = refl
length_bitmap (suc k) f = ap suc (length_bitmap k (λ i. f (8 + i)))

-- nothing is set
pub bits_none : (n : ℕ) → bits (λ _. false) n ≡ 0
unfolding bits
bits_none zero = refl
bits_none (suc n) = rw (bits_none n) refl

pub bitmap_none : (k : ℕ) → bitmap (λ _. false) k ≡ replicate k 0
unfolding bitmap
bitmap_none zero = refl
bitmap_none (suc k) = rw (bits_none 8, bitmap_none k) refl

or_false : (b : Bool) → (b || false) ≡ b
or_false true = refl
or_false false = refl

or_true : (b : Bool) → (b || true) ≡ true
or_true true = refl
or_true false = refl

bit_or_one : (b : Bool) → bit_or (cond b 1 0) 1 ≡ 1
bit_or_one true = refl
bit_or_one false = refl

bit_below : (b : Bool) → cond b 1 0 < 2
bit_below true = omega arith
bit_below false = omega arith

pub eqb_same : (a b c d : ℕ) → (a ≡ b → c ≡ d) → (c ≡ d → a ≡ b) → eqb a b ≡ eqb c d
eqb_same a b c d there back =
    ⊎_elim (λ e. eq-eqb a b e ∙ sym (eq-eqb c d (there e))) (λ ne. ne_eqb a b ne ∙ sym (ne_eqb c d (λ e. ne (back e)))) (cases_eq a b)

without : (f : ℕ → Bool) (i k : ℕ) → (i ≡ k → ⊥) → (f k || eqb i k) ≡ f k
without f i k ne = rw (ne_eqb i k ne) (or_false (f k))

-- one more bit in a number
pub or_bit : (n i : ℕ) (f : ℕ → Bool) → i < n → bit_or (bits f n) (2 ^ i) ≡ bits (λ k. f k || eqb i k) n
unfolding bits
or_bit zero i f h = absurd (omega arith)
or_bit (suc n) zero f h =
    let s : bit_or (bits (λ i. f (suc i)) n * 2 + cond (f 0) 1 0) 1 ≡ bit_or (bits (λ i. f (suc i)) n) 0 * 2 + bit_or (cond (f 0) 1 0) 1 =
    or_block 1 (bits (λ i. f (suc i)) n) 0 (cond (f 0) 1 0) 1 (bit_below (f 0)) (omega arith) in
    let t : bits (λ i. f (suc i) || eqb 0 (suc i)) n ≡ bits (λ i. f (suc i)) n = bits_ext n _ _ (λ i k. without f 0 (suc i) (λ e. omega arith)) in
    s ∙ rw (or_zero_r (bits (λ i. f (suc i)) n), bit_or_one (f 0), t, or_true (f 0)) refl
or_bit (suc n) (suc i) f h =
    let p : 2 ^ suc i ≡ 2 ^ i * 2 + 0 = omega (arith, pow-suc 2 i) in
    let s : bit_or (bits (λ i. f (suc i)) n * 2 + cond (f 0) 1 0) (2 ^ i * 2 + 0) ≡ bit_or (bits (λ i. f (suc i)) n) (2 ^ i) * 2 + bit_or (cond (f 0) 1 0) 0 =
    or_block 1 (bits (λ i. f (suc i)) n) (2 ^ i) (cond (f 0) 1 0) 0 (bit_below (f 0)) (omega arith) in
    let q = or_bit n i (λ k. f (suc k)) (omega arith) in
    let t : bits (λ k. f (suc k) || eqb (suc i) (suc k)) n ≡ bits (λ k. f (suc k) || eqb i k) n = bits_ext n _ _ (λ k l. ap (λ b. f (suc k) || b) (eqb_same (suc i) (suc k) i k (λ e. omega arith) (λ e. omega arith))) in
    rw (p, s, q, or_zero_r (cond (f 0) 1 0), t, without f (suc i) 0 (λ e. omega arith)) refl

-- one more bit in a bitmap
pub mark_bitmap : (k i : ℕ) (f : ℕ → Bool) (rest : List ℕ) → i < 8 * k → marked (bitmap f k ++ rest) i ≡ bitmap (λ j. f j || eqb i j) k ++ rest
unfolding bitmap
mark_bitmap zero i f rest h = absurd (omega arith)
mark_bitmap (suc k) i f rest h =
    ⊎_elim
    (λ (l : i < 8).
    let d : i / 8 ≡ 0 = omega arith in
    let m : i % 8 ≡ i = omega arith in
    let t : bitmap (λ j. f (8 + j) || eqb i (8 + j)) k ≡ bitmap (λ j. f (8 + j)) k = bitmap_ext k _ _ (λ j _. without f i (8 + j) (λ e. omega arith)) in
    rw (d, m, or_bit 8 i f l, t) refl)
    (λ (g : 8 ≤ i).
    let w : i - 8 < 8 * k = omega arith in
    let r : marked (bitmap (λ j. f (8 + j)) k ++ rest) (i - 8) ≡ bitmap (λ j. f (8 + j) || eqb (i - 8) j) k ++ rest = mark_bitmap k (i - 8) (λ j. f (8 + j)) rest w in
    let d : i / 8 ≡ suc ((i - 8) / 8) = omega arith in
    let m : i % 8 ≡ (i - 8) % 8 = omega arith in
    let b : bits (λ j. f j || eqb i j) 8 ≡ bits f 8 = bits_ext 8 _ _ (λ j l. without f i j (λ e. omega arith)) in
    let t : bitmap (λ j. f (8 + j) || eqb i (8 + j)) k ≡ bitmap (λ j. f (8 + j) || eqb (i - 8) j) k =
    bitmap_ext k _ _ (λ j l. ap (λ v. f (8 + j) || v) (eqb_same i (8 + j) (i - 8) j (λ e. omega arith) (λ e. omega arith))) in
    rw (d, m, b, t) (ap (λ (xs : List ℕ). bits f 8 ∷ xs) r))
    (cases_lt i 8)

-- the bit that stands at i
pub bit_of_lem : (n i : ℕ) (f : ℕ → Bool) → i < n → (bits f n / 2 ^ i) % 2 ≡ cond (f i) 1 0
unfolding bits
bit_of_lem zero i f h = absurd (omega arith)
bit_of_lem (suc n) zero f h = let b = bit_below (f 0) in rw div-one (omega arith)
bit_of_lem (suc n) (suc i) f h =
    let b = bit_below (f 0) in
    let half : (bits (λ k. f (suc k)) n * 2 + cond (f 0) 1 0) / 2 ≡ bits (λ k. f (suc k)) n = omega arith in
    rw (pow-succ' 2 i, sym (div-div-eq-div-mul (bits (λ k. f (suc k)) n * 2 + cond (f 0) 1 0) 2 (2 ^ i)), half) (bit_of_lem n i (λ k. f (suc k)) (omega arith))

one_if : (b : Bool) → eqb (cond b 1 0) 1 ≡ b
one_if true = refl
one_if false = refl

-- what a bitmap holds at each address
pub bit_at_lem : (f : ℕ → Bool) (k i : ℕ) (rest : List ℕ) → i < 8 * k → bit_at (bitmap f k ++ rest) i ≡ f i
unfolding bitmap
bit_at_lem f zero i rest h = absurd (omega arith)
bit_at_lem f (suc k) i rest h =
    ⊎_elim
    (λ (l : i < 8).
    let d : i / 8 ≡ 0 = omega arith in
    let m : i % 8 ≡ i = omega arith in
    rw (d, m, bit_of_lem 8 i f l) (one_if (f i)))
    (λ (g : 8 ≤ i).
    let w : i - 8 < 8 * k = omega arith in
    let d : i / 8 ≡ suc ((i - 8) / 8) = omega arith in
    let m : i % 8 ≡ (i - 8) % 8 = omega arith in
    let s : 8 + (i - 8) ≡ i = omega arith in
    let r : bit_at (bitmap (λ j. f (8 + j)) k ++ rest) (i - 8) ≡ f (8 + (i - 8)) = bit_at_lem (λ j. f (8 + j)) k (i - 8) rest w in
    rw (d, m) (r ∙ ap f s))
    (cases_lt i 8)

-- the same of a buffer that is all marks
pub mark_all : (k i : ℕ) (f : ℕ → Bool) → i < 8 * k → marked (bitmap f k) i ≡ bitmap (λ j. f j || eqb i j) k
mark_all k i f h = let m = mark_bitmap k i f [] h in rw (append-nil (bitmap f k), append-nil (bitmap (λ j. f j || eqb i j) k)) at m

pub bit_of_all : (f : ℕ → Bool) (k i : ℕ) → i < 8 * k → bit_at (bitmap f k) i ≡ f i
bit_of_all f k i h = let b = bit_at_lem f k i [] h in rw (append-nil (bitmap f k)) at b
