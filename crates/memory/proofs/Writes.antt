-- A write, byte by byte.
use Rattle.std.proofs.Common.{◌≡◌, ℕ, zero, suc, ◌+◌, ◌-◌, ◌<◌, ◌≤◌, List, [], ◌∷◌, length, get_or, take, drop, Ok, Err, Result, sym, refl, ap, ◌∙◌, ⊎_elim, arith}
use native.Mathlib.Nat.{add-sub_cancel_left}
use Rattle.std.proofs.lemmas.List.{at_drop_more, ext_get_or, length-take-le, length-drop, get_or-take, get_or-drop}
use Rattle.std.proofs.lemmas.Bool.{cond-false}
use Rattle.memory.specs.Access.{Outcome, laid, stored, put_of, read_of}
use Rattle.memory.specs.Faults.{fault_address}
use Rattle.memory.specs.Laws.{Written, ReadAfterWrite, WriteInside, WrittenBefore, CopyAfterWrite}
use Rattle.memory.specs.Meaning.{Meaning, Valid}
use Rattle.memory.specs.Ranges.{onward, write_of, bytes_of}
use Rattle.memory.specs.declared.faults.MemoryFault.{MemoryFault}
use Rattle.memory.specs.declared.faults.MemoryFault.TheVariants.{Outside, NoFreePage}
use Rattle.memory.proofs.Copies.{copy_is}
use Rattle.memory.proofs.Grants.{ok_err, put_ways, granted}
use Rattle.memory.proofs.Laid.{Off, on_or_off, laid_on, read_laid, within_off}
use Rattle.memory.proofs.Puts.{length_laid}

module _ (m : Meaning) (a b : ℕ) (bs : List ℕ) (r : Result (Unit {0}) MemoryFault) (n : Meaning) where
  pub write_more : ◌≡◌ {A = Outcome} (r, n) (put_of m a (b ∷ [])) → write_of m a (b ∷ bs) ≡ onward (r, n) (λ k. write_of k (a + 1) bs)
  write_more e = ap (λ x. onward x (λ k. write_of k (a + 1) bs)) (sym e)

-- one turn of the loop: i bytes are written, and the next one is put
module _ (m n : Meaning) (a i : ℕ) (bs : List ℕ) (all : Outcome) (r : Result (Unit {0}) MemoryFault) where
  turn : i < length bs → write_of m a (drop i bs) ≡ all → ◌≡◌ {A = Outcome} (r, n) (put_of m a (get_or bs i 0 ∷ []))
      → onward (r, n) (λ k. write_of k (a + 1) (drop (i + 1) bs)) ≡ all
  turn h rest e = sym (write_more m a (get_or bs i 0) (drop (i + 1) bs) r n e) ∙ (sym (at_drop_more (write_of m a) bs i 0 h) ∙ rest)

  pub turn_ok : (u : Unit {0}) → r ≡ Ok u → i < length bs → write_of m a (drop i bs) ≡ all → ◌≡◌ {A = Outcome} (r, n) (put_of m a (get_or bs i 0 ∷ []))
      → write_of n (a + 1) (drop (i + 1) bs) ≡ all
  turn_ok u s h rest e = ap (λ x. onward (x, n) (λ k. write_of k (a + 1) (drop (i + 1) bs))) (sym s) ∙ turn h rest e

pub turn_inside : (m n : Meaning) (a b : ℕ) (r : Result (Unit {0}) MemoryFault) (u : Unit {0}) → Valid m → r ≡ Ok u
    → ◌≡◌ {A = Outcome} (r, n) (put_of m a (b ∷ [])) → a < 1048576
turn_inside m n a b r u v s e =
    let t = granted m a (b ∷ []) n (sym e ∙ ap (λ x. (x, n)) s) in
    omega (arith, v.fit.1, t.0)

-- a granted write: the bytes are laid over the memory's
abbrev Spread : List ℕ → Meaning → Meaning → ℕ → Type 0
Spread bs m n a = (n.size ≡ m.size) × (n.bytes ≡ laid m.bytes a bs) × (0 < length bs → a + length bs ≤ m.size)

module _ (b : ℕ) (bs : List ℕ) (m n : Meaning) (a : ℕ) where
  inside : (j z : ℕ) → z ≡ m.size → a + 1 ≤ m.size → (0 < j → a + 1 + j ≤ z) → a + suc j ≤ m.size
  inside zero z same l f = omega arith
  inside (suc j) z same l f = omega (arith, f (omega arith))

  spread_more : ((k : Meaning) → Written k (a + 1) bs n → Spread bs k n (a + 1)) → (r : Result (Unit {0}) MemoryFault) (k : Meaning)
      → ◌≡◌ {A = Outcome} (put_of m a (b ∷ [])) (r, k) → ◌≡◌ {A = Outcome} (onward (r, k) (λ k. write_of k (a + 1) bs)) (Ok tt, n) → Spread (b ∷ bs) m n a
  spread_more rest (Ok u) k p q =
      let t = granted m a (b ∷ []) k p in
      let s = rest k q in
      let same : k.size ≡ m.size = ap (λ x. x.size) t.2 in
      (s.0 ∙ same, s.1 ∙ ap (λ x. laid x.bytes (a + 1) bs) t.2, λ h. inside (length bs) k.size same t.0 s.2)
  spread_more rest (Err f) k p q = ok_err n k f (sym q)

spread : (bs : List ℕ) (m n : Meaning) (a : ℕ) → Written m a bs n → Spread bs m n a
spread [] m n a e = (ap (λ r. r.1.size) (sym e), ap (λ r. r.1.bytes) (sym e), λ h. absurd (omega arith))
spread (b ∷ bs) m n a e = spread_more b bs m n a (λ k. spread bs k n (a + 1)) (put_of m a (b ∷ [])).0 (put_of m a (b ∷ [])).1 refl e

pub write_inside : WriteInside
write_inside m n a bs h e = (spread bs m n a e).2 h

pub read_after_write : ReadAfterWrite
read_after_write m n a x [] v e =
    ap (λ r. read_of r.1 x) (sym e)
    ∙ sym (cond-false _ _ _
    (⊎_elim (λ (on : (a ≤ x) × (x < a + 0)). absurd (omega arith)) (λ (off : Off x a 0). within_off a 0 x off) (on_or_off a 0 x)))
read_after_write m n a x (b ∷ bs) v e =
    let t = spread (b ∷ bs) m n a e in
    read_laid m n a x (b ∷ bs) v.all_bytes (t.2 (omega arith)) t.0 t.1

-- the bytes of a range that was laid
laid_bytes : (xs bs : List ℕ) (a : ℕ) → a + length bs ≤ length xs → take (length bs) (drop a (laid xs a bs)) ≡ bs
laid_bytes xs bs a h =
    let long : length (take (length bs) (drop a (laid xs a bs))) ≡ length bs =
    length-take-le (length bs) (drop a (laid xs a bs)) (rw (length-drop a (laid xs a bs), length_laid bs xs a) (omega arith)) in
    ext_get_or 0 (take (length bs) (drop a (laid xs a bs))) bs long
    (λ i l.
    let k : i < length bs = omega arith in
    get_or-take (length bs) (drop a (laid xs a bs)) i 0 k ∙ (get_or-drop a (laid xs a bs) i 0
    ∙ (laid_on bs xs a (a + i) h (omega arith) (omega arith) ∙ ap (λ j. get_or bs j 0) (add-sub_cancel_left a i))))

written_bytes : (m n : Meaning) (a : ℕ) (bs : List ℕ) → Valid m → Written m a bs n → bytes_of n a (length bs) ≡ bs
written_bytes m n a [] v e = refl
written_bytes m n a (b ∷ bs) v e =
    let t = spread (b ∷ bs) m n a e in
    ap (λ xs. take (length (b ∷ bs)) (drop a xs)) t.1 ∙ laid_bytes m.bytes (b ∷ bs) a (omega (arith, v.all_bytes, t.2 (omega arith)))

pub copy_after_write : CopyAfterWrite
copy_after_write m n a bs buffer v long e = copy_is n a buffer bs long (written_bytes m n a bs v e)

-- where a put refuses, and what is left of it
refused_at : (m n : Meaning) (a b : ℕ) (e : MemoryFault) → ◌≡◌ {A = Outcome} (put_of m a (b ∷ [])) (Err e, n) → (fault_address e ≡ a) × (n ≡ m)
refused_at m n a b e =
    put_ways m a (b ∷ []) (λ r. r ≡ (Err e, n) → (fault_address e ≡ a) × (n ≡ m))
    (λ h q. (named (Outside a) e (ap (λ r. r.0) q), ap (λ r. r.1) (sym q)))
    (λ h l q. (named (NoFreePage a) e (ap (λ r. r.0) q), ap (λ r. r.1) (sym q)))
    (λ h l q. ok_err (stored m a (b ∷ [])) n e q)
  where
    named : (f g : MemoryFault) → ◌≡◌ {A = Result (Unit {0}) MemoryFault} (Err f) (Err g) → fault_address g ≡ fault_address f
    named f g q = let p : f ≡ g = cc in ap fault_address (sym p)

-- a refused write: the bytes before the refusal are written, and the next put is refused
abbrev Before : List ℕ → Meaning → Meaning → ℕ → ℕ → MemoryFault → Type 0
Before bs m n a x e = (a ≤ x) × (x < a + length bs) × Written m a (take (x - a) bs) n × ◌≡◌ {A = Outcome} (put_of n x (get_or bs (x - a) 0 ∷ [])) (Err e, n)

module _ (b : ℕ) (bs : List ℕ) (m n : Meaning) (a x : ℕ) (e : MemoryFault) (named : fault_address e ≡ x) where
  before_more : ((k : Meaning) → ◌≡◌ {A = Outcome} (write_of k (a + 1) bs) (Err e, n) → Before bs k n (a + 1) x e) → (r : Result (Unit {0}) MemoryFault) (k : Meaning)
      → ◌≡◌ {A = Outcome} (put_of m a (b ∷ [])) (r, k) → ◌≡◌ {A = Outcome} (onward (r, k) (λ k. write_of k (a + 1) bs)) (Err e, n) → Before (b ∷ bs) m n a x e
  before_more rest (Ok u) k p q =
      let t = rest k q in
      let z : x - a ≡ suc (x - (a + 1)) = omega (arith, t.0) in (
        omega (arith, t.0),
        omega (arith, t.1),
        ap (λ j. write_of m a (take j (b ∷ bs))) z ∙ (write_more m a b (take (x - (a + 1)) bs) (Ok u) k (sym p) ∙ t.2),
        ap (λ j. put_of n x (get_or (b ∷ bs) j 0 ∷ [])) z ∙ t.3,
      )
  before_more rest (Err f) k p q =
      let t = refused_at m n a b e (p ∙ q) in
      let z : x - a ≡ 0 = omega (arith, t.0) in
      let here : x ≡ a = omega (arith, t.0) in (
        omega arith,
        omega arith,
        ap (λ j. write_of m a (take j (b ∷ bs))) z ∙ ap (λ k. (Ok tt, k)) (sym t.1),
        ap (λ j. put_of n x (get_or (b ∷ bs) j 0 ∷ [])) z ∙ (ap (λ i. put_of n i (b ∷ [])) here ∙ (ap (λ k. put_of k a (b ∷ [])) t.1 ∙ (p ∙ q))),
      )

before : (bs : List ℕ) (m n : Meaning) (a x : ℕ) (e : MemoryFault) → fault_address e ≡ x → ◌≡◌ {A = Outcome} (write_of m a bs) (Err e, n) → Before bs m n a x e
before [] m n a x e named q = ok_err m n e q
before (b ∷ bs) m n a x e named q =
    before_more b bs m n a x e named (λ k. before bs k n (a + 1) x e named) (put_of m a (b ∷ [])).0 (put_of m a (b ∷ [])).1 refl q

pub written_before : WrittenBefore
written_before m n a x bs e named q = before bs m n a x e named q
