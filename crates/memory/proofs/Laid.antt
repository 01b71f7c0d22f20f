-- Bytes written over bytes: what stands where after it, and in which order it may be done.
use Rattle.std.proofs.Common.{◌≡◌, ℕ, suc, ◌+◌, ◌-◌, ◌<◌, ◌≤◌, true, false, cond, ltb, ◌⊎◌, List, [], ◌∷◌, length, get_or, set, take, drop, ◌++◌, append_assoc, Ok, Err, Result, sym, refl, ap, ◌∙◌, inl, inr, ⊎_elim, arith}
use Rattle.std.proofs.lemmas.List.{length-set, get_or-set_same, get_or-set_other, set_comm, take-append-drop, take_more_set, drop-set-lt}
use Rattle.std.proofs.lemmas.Bool.{cases_eq, cases_lt, lt-ltb, le-ltb, le-leb, lt-leb, and_from, and_left, and_right, cond-true, cond-false}
use Rattle.memory.specs.Access.{laid, read_of}
use Rattle.memory.specs.Laws.{within}
use Rattle.memory.specs.Meaning.{Meaning, Octets}
use Rattle.memory.specs.declared.faults.MemoryFault.{MemoryFault}
use Rattle.memory.specs.declared.faults.MemoryFault.TheVariants.{Outside}
use Rattle.memory.proofs.Puts.{set_octets}

-- i is none of the k places from a on
abbrev pub Off : ℕ → ℕ → ℕ → Type 0
Off i a k = (i < a) ⊎ (a + k ≤ i)

off_rest : (i a k : ℕ) → Off i a (suc k) → Off i (a + 1) k
off_rest i a k (inl h) = inl (omega arith)
off_rest i a k (inr h) = inr (omega arith)

off_first : (i a k : ℕ) → Off i a (suc k) → i ≡ a → ⊥
off_first i a k (inl h) e = omega arith
off_first i a k (inr h) e = omega arith

pub laid_off : (bs xs : List ℕ) (a i : ℕ) → Off i a (length bs) → get_or (laid xs a bs) i 0 ≡ get_or xs i 0
laid_off [] xs a i o = refl
laid_off (b ∷ bs) xs a i o =
    laid_off bs (set xs a b) (a + 1) i (off_rest i a (length bs) o) ∙ get_or-set_other xs a i b 0 (off_first i a (length bs) o)

pub laid_on : (bs xs : List ℕ) (a i : ℕ) → a + length bs ≤ length xs → a ≤ i → i < a + length bs → get_or (laid xs a bs) i 0 ≡ get_or bs (i - a) 0
laid_on [] xs a i h l r = absurd (omega arith)
laid_on (b ∷ bs) xs a i h l r =
    ⊎_elim
    (λ (e : i ≡ a).
    let z : i - a ≡ 0 = omega arith in
    laid_off bs (set xs a b) (a + 1) i (inl (omega arith)) ∙ (ap (λ k. get_or (set xs a b) k 0) e
    ∙ (get_or-set_same xs a b 0 (omega arith) ∙ ap (λ k. get_or (b ∷ bs) k 0) (sym z))))
    (λ (ne : i ≡ a → ⊥).
    let z : i - a ≡ suc (i - (a + 1)) = omega arith in
    laid_on bs (set xs a b) (a + 1) i (rw (length-set xs a b) (omega arith)) (omega arith) (omega arith)
    ∙ ap (λ k. get_or (b ∷ bs) k 0) (sym z))
    (cases_eq i a)

-- the whole of it: what stands before, the bytes, and what stands behind
pub laid_is : (bs xs : List ℕ) (a : ℕ) → a + length bs ≤ length xs → laid xs a bs ≡ take a xs ++ (bs ++ drop (a + length bs) xs)
laid_is [] xs a h = let e : a + 0 ≡ a = omega arith in rw e (sym (take-append-drop a xs))
laid_is (b ∷ bs) xs a h =
    let l : a < length xs = omega arith in
    let sum : a + 1 + length bs ≡ a + length (b ∷ bs) = omega arith in
    laid_is bs (set xs a b) (a + 1) (rw length-set (omega arith))
    ∙ rw (take_more_set xs a b l, drop-set-lt (a + 1 + length bs) xs a b (omega arith), sum, append_assoc (take a xs) (b ∷ []) (bs ++ drop (a + length (b ∷ bs)) xs)) refl

pub laid_octets : (bs xs : List ℕ) (a : ℕ) → Octets xs → Octets bs → Octets (laid xs a bs)
laid_octets [] xs a o p = o
laid_octets (b ∷ bs) xs a o p = laid_octets bs (set xs a b) (a + 1) (set_octets xs a b o (p 0)) (λ k. p (suc k))

pub within_on : (a k i : ℕ) → a ≤ i → i < a + k → within a k i ≡ true
within_on a k i l r = and_from _ _ (le-leb a i l) (lt-ltb i (a + k) r)

pub within_off : (a k i : ℕ) → Off i a k → within a k i ≡ false
within_off a k i (inl h) = and_left _ _ (lt-leb a i h)
within_off a k i (inr h) = and_right _ _ (le-ltb i (a + k) h)

pub on_or_off : (a k i : ℕ) → ((a ≤ i) × (i < a + k)) ⊎ Off i a k
on_or_off a k i =
    ⊎_elim (λ (h : i < a). inr (inl h))
    (λ (l : a ≤ i). ⊎_elim (λ (r : i < a + k). inl (l, r)) (λ (h : a + k ≤ i). inr (inr h)) (cases_lt i (a + k)))
    (cases_lt i a)

-- a read of a size, an address and the byte there
abbrev seen : ℕ → ℕ → ℕ → Result ℕ MemoryFault
seen s i b = cond (ltb i s) (Ok b) (Err (Outside i))

pub read_laid : (m n : Meaning) (a i : ℕ) (bs : List ℕ) → length m.bytes ≡ m.size → a + length bs ≤ m.size
    → n.size ≡ m.size → n.bytes ≡ laid m.bytes a bs
    → read_of n i ≡ cond (within a (length bs) i) (Ok (get_or bs (i - a) 0)) (read_of m i)
read_laid m n a i bs full h s b =
    ap (λ z. seen z i (get_or n.bytes i 0)) s ∙ (ap (λ xs. seen m.size i (get_or xs i 0)) b
    ∙ ⊎_elim
    (λ (on : (a ≤ i) × (i < a + length bs)).
    cond-true _ _ _ (lt-ltb i m.size (omega arith)) ∙ (ap Ok (laid_on bs m.bytes a i (omega arith) on.0 on.1)
    ∙ sym (cond-true _ _ _ (within_on a (length bs) i on.0 on.1))))
    (λ (off : Off i a (length bs)).
    ap (seen m.size i) (laid_off bs m.bytes a i off) ∙ sym (cond-false _ _ _ (within_off a (length bs) i off)))
    (on_or_off a (length bs) i))

set_laid : (bs xs : List ℕ) (a i b : ℕ) → Off i a (length bs) → set (laid xs a bs) i b ≡ laid (set xs i b) a bs
set_laid [] xs a i b o = refl
set_laid (c ∷ bs) xs a i b o =
    set_laid bs (set xs a c) (a + 1) i b (off_rest i a (length bs) o)
    ∙ ap (λ l. laid l (a + 1) bs) (set_comm xs a i c b (λ e. off_first i a (length bs) o (sym e)))

-- two runs of bytes with no place in common
pub laid_comm : (bs cs xs : List ℕ) (a b : ℕ) → (a + length bs ≤ b) ⊎ (b + length cs ≤ a) → laid (laid xs a bs) b cs ≡ laid (laid xs b cs) a bs
laid_comm bs [] xs a b o = refl
laid_comm bs (c ∷ cs) xs a b o =
    ap (λ l. laid l (b + 1) cs) (set_laid bs xs a b c (off o)) ∙ laid_comm bs cs (set xs b c) a (b + 1) (rest o)
  where
    off : (a + length bs ≤ b) ⊎ (b + suc (length cs) ≤ a) → Off b a (length bs)
    off (inl h) = inr h
    off (inr h) = inl (omega arith)

    rest : (a + length bs ≤ b) ⊎ (b + suc (length cs) ≤ a) → (a + length bs ≤ b + 1) ⊎ (b + 1 + length cs ≤ a)
    rest (inl h) = inl (omega arith)
    rest (inr h) = inr (omega arith)
