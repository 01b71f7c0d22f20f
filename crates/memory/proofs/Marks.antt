-- Two marks set among the marks of held pages: which are set then, how many, and that the order is all one.
use Rattle.std.proofs.Common.{◌≡◌, ℕ, ◌+◌, ◌<◌, ◌≤◌, Bool, true, false, cond, eqb, List, length, get_or, set, count_by, sym, refl, ap, ◌∙◌, ⊎_elim, arith}
use Rattle.std.proofs.lemmas.List.{length-set, get_or-set_same, get_or-set_other, set_comm, set_past}
use Rattle.std.proofs.lemmas.List.Sums.{sum_by-set}
use Rattle.std.proofs.lemmas.Bool.{cases_eq, cases_lt, eq-eqb, ne_eqb, cond-true, cond-false}

abbrev pub marked : List Bool → ℕ → ℕ → List Bool
marked h p q = set (set h p true) q true

abbrev pub count : List Bool → ℕ
count h = count_by (λ x. x) h

abbrev pub lack : List Bool → ℕ → ℕ
lack h p = cond (get_or h p false) 0 1

abbrev pub lack_both : List Bool → ℕ → ℕ → ℕ
lack_both h p q = lack h p + cond (eqb p q) 0 (lack h q)

pub length_marked : (h : List Bool) (p q : ℕ) → length (marked h p q) ≡ length h
length_marked h p q = length-set (set h p true) q true ∙ length-set h p true

mark_keeps : (h : List Bool) (p x : ℕ) → get_or h x false ≡ true → get_or (set h p true) x false ≡ true
mark_keeps h p x e =
    ⊎_elim
    (λ (s : x ≡ p).
    ⊎_elim
    (λ (l : p < length h). ap (λ k. get_or (set h p true) k false) s ∙ get_or-set_same h p true false l)
    (λ (l : length h ≤ p). ap (λ g. get_or g x false) (set_past h p true l) ∙ e)
    (cases_lt p (length h)))
    (λ (ne : x ≡ p → ⊥). get_or-set_other h p x true false ne ∙ e)
    (cases_eq x p)

pub marked_keeps : (h : List Bool) (p q x : ℕ) → get_or h x false ≡ true → get_or (marked h p q) x false ≡ true
marked_keeps h p q x e = mark_keeps (set h p true) q x (mark_keeps h p x e)

pub marked_first : (h : List Bool) (p q : ℕ) → p < length h → get_or (marked h p q) p false ≡ true
marked_first h p q l = mark_keeps (set h p true) q p (get_or-set_same h p true false l)

pub marked_last : (h : List Bool) (p q : ℕ) → q < length h → get_or (marked h p q) q false ≡ true
marked_last h p q l = get_or-set_same (set h p true) q true false (rw (length-set h p true) l)

pub marked_other : (h : List Bool) (p q x : ℕ) → (x ≡ p → ⊥) → (x ≡ q → ⊥) → get_or (marked h p q) x false ≡ get_or h x false
marked_other h p q x n k = get_or-set_other (set h p true) q x true false k ∙ get_or-set_other h p x true false n

count_mark : (h : List Bool) (p : ℕ) → p < length h → count (set h p true) ≡ count h + lack h p
count_mark h p l = go (get_or h p false) (sum_by-set (λ x. cond x 1 0) h p true false l)
  where
    go : (b : Bool) → count (set h p true) + cond b 1 0 ≡ count h + 1 → count (set h p true) ≡ count h + cond b 0 1
    go true e = omega arith
    go false e = omega arith

lack_after : (h : List Bool) (p q : ℕ) → p < length h → lack (set h p true) q ≡ cond (eqb p q) 0 (lack h q)
lack_after h p q l =
    ⊎_elim
    (λ (e : q ≡ p).
    cond-true _ _ _ (ap (λ k. get_or (set h p true) k false) e ∙ get_or-set_same h p true false l)
    ∙ sym (cond-true _ _ _ (eq-eqb p q (sym e))))
    (λ (ne : q ≡ p → ⊥).
    ap (λ (b : Bool). cond {A = ℕ} b 0 1) (get_or-set_other h p q true false ne)
    ∙ sym (cond-false _ _ _ (ne_eqb p q (λ e. ne (sym e)))))
    (cases_eq q p)

-- the count grows by what was lacking
pub count_marked : (h : List Bool) (p q : ℕ) → p < length h → q < length h → count (marked h p q) ≡ count h + lack_both h p q
count_marked h p q l r =
    let one = count_mark h p l in
    let two = count_mark (set h p true) q (rw (length-set h p true) r) in
    let same = lack_after h p q l in
    omega arith

mark_comm : (h : List Bool) (p q : ℕ) → set (set h p true) q true ≡ set (set h q true) p true
mark_comm h p q =
    ⊎_elim (λ (e : p ≡ q). rw e refl) (λ (ne : p ≡ q → ⊥). set_comm h p q true true ne) (cases_eq p q)

mark_marked : (h : List Bool) (p q x : ℕ) → set (marked h p q) x true ≡ marked (set h x true) p q
mark_marked h p q x = mark_comm (set h p true) q x ∙ ap (λ l. set l q true) (mark_comm h p x)

pub marked_comm : (h : List Bool) (p q x y : ℕ) → marked (marked h p q) x y ≡ marked (marked h x y) p q
marked_comm h p q x y = ap (λ l. set l y true) (mark_marked h p q x) ∙ mark_marked (set h x true) p q y
