-- A rule of a table of rows, proved at all of its entries by one test that antt computes.
use Rattle.std.proofs.Common.{◌≡◌, ℕ, zero, suc, ◌+◌, ◌<◌, Bool, true, false, ◌&&◌, T, eqb, List, [], ◌∷◌, length, get_or, sym, ◌∙◌, subst, inl, inr, le_of_suc-le-suc, not-suc-le-zero, add-zero, add-suc, suc-add, eq-or-lt_of_le, zero-add, eqb→eq}

both_left : (a b : Bool) → T (a && b) → T a
both_left true b t = tt
both_left false b t = t

both_right : (a b : Bool) → T (a && b) → T b
both_right true b t = t
both_right false b t = absurd t

-- each entry of a row is g of its place, counted from i
abbrev pub row : (ℕ → ℕ) → ℕ → List ℕ → Bool
row g i [] = true
row g i (x ∷ xs) = eqb x (g i) && row g (suc i) xs

-- each row has w entries, and each entry is g of its row and its place
abbrev pub rows : (ℕ → ℕ → ℕ) → ℕ → ℕ → List (List ℕ) → Bool
rows g w i [] = true
rows g w i (xs ∷ xss) = eqb (length xs) w && (row (g i) 0 xs && rows g w (suc i) xss)

row_from : (g : ℕ → ℕ) (xs : List ℕ) (i : ℕ) → T (row g i xs) → (k : ℕ) → k < length xs → get_or xs k 0 ≡ g (i + k)
row_from g [] i t k h = absurd (not-suc-le-zero h)
row_from g (x ∷ xs) i t zero h = subst (λ (m : ℕ). x ≡ g m) (sym (add-zero i)) (eqb→eq x (g i) (both_left (eqb x (g i)) (row g (suc i) xs) t))
row_from g (x ∷ xs) i t (suc k) h =
    subst (λ (m : ℕ). get_or xs k 0 ≡ g m) (suc-add i k ∙ sym (add-suc i k))
    (row_from g xs (suc i) (both_right (eqb x (g i)) (row g (suc i) xs) t) k (le_of_suc-le-suc h))

rows_from : (g : ℕ → ℕ → ℕ) (w : ℕ) (d : List ℕ) (xss : List (List ℕ)) (i : ℕ) → T (rows g w i xss) → (s b : ℕ) → s < length xss → b < w → get_or (get_or xss s d) b 0 ≡ g (i + s) b
rows_from g w d [] i t s b h hb = absurd (not-suc-le-zero h)
rows_from g w d (xs ∷ xss) i t zero b h hb =
    let e : length xs ≡ w = eqb→eq (length xs) w (both_left (eqb (length xs) w) (row (g i) 0 xs && rows g w (suc i) xss) t) in
    let r : T (row (g i) 0 xs) = both_left (row (g i) 0 xs) (rows g w (suc i) xss) (both_right (eqb (length xs) w) (row (g i) 0 xs && rows g w (suc i) xss) t) in
    let hb' : b < length xs = subst (λ (n : ℕ). b < n) (sym e) hb in
    subst (λ (m : ℕ). get_or xs b 0 ≡ g m b) (sym (add-zero i)) (subst (λ (m : ℕ). get_or xs b 0 ≡ g i m) (zero-add b) (row_from (g i) xs 0 r b hb'))
rows_from g w d (xs ∷ xss) i t (suc s) b h hb =
    subst (λ (m : ℕ). get_or (get_or xss s d) b 0 ≡ g m b) (suc-add i s ∙ sym (add-suc i s))
    (rows_from g w d xss (suc i) (both_right (row (g i) 0 xs) (rows g w (suc i) xss) (both_right (eqb (length xs) w) (row (g i) 0 xs && rows g w (suc i) xss) t)) s b (le_of_suc-le-suc h) hb)

pub at : (g : ℕ → ℕ → ℕ) (w : ℕ) (d : List ℕ) (xss : List (List ℕ)) → T (rows g w 0 xss) → (s b : ℕ) → s < length xss → b < w → get_or (get_or xss s d) b 0 ≡ g s b
at g w d xss t s b h hb = subst (λ (m : ℕ). get_or (get_or xss s d) b 0 ≡ g m b) (zero-add s) (rows_from g w d xss 0 t s b h hb)

-- a rule at each place of a grid of h rows and w columns, by one test
abbrev pub below : (ℕ → Bool) → ℕ → Bool
below f zero = true
below f (suc n) = f n && below f n

below_at : (f : ℕ → Bool) (n : ℕ) → T (below f n) → (k : ℕ) → k < n → T (f k)
below_at f zero t k h = absurd (not-suc-le-zero h)
below_at f (suc n) t k h =
    elim (eq-or-lt_of_le (le_of_suc-le-suc h)) [ inl e ↦ subst (λ (m : ℕ). T (f m)) (sym e) (both_left (f n) (below f n) t) | inr l ↦ below_at f n (both_right (f n) (below f n) t) k l ]

pub grid : (f : ℕ → ℕ → Bool) (h w : ℕ) → T (below (λ s. below (f s) w) h) → (s b : ℕ) → s < h → b < w → T (f s b)
grid f h w t s b hs hb = below_at (f s) w (below_at (λ s. below (f s) w) h t s hs) b hb
