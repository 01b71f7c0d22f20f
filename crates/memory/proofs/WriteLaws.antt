-- What every put of a byte keeps, a write keeps; and the pages that a granted write holds.
use Rattle.std.proofs.Common.{◌≡◌, ℕ, zero, suc, ◌+◌, ◌*◌, ◌/◌, ◌<◌, ◌≤◌, true, List, [], ◌∷◌, length, get_or, Ok, Err, Result, sym, refl, ap, ◌∙◌, subst, ⊎_elim, arith}
use Rattle.std.proofs.lemmas.Bool.{cases_eq, and_parts, leb-true, ltb-true}
use Rattle.memory.specs.Access.{Outcome, last_page, put_of}
use Rattle.memory.specs.Laws.{held_pages, Written, WriteHolds, WriteSize, WritePagesStay, WritePagesKept, WriteValid}
use Rattle.memory.specs.Meaning.{Meaning, Valid, Octets, holds}
use Rattle.memory.specs.Ranges.{onward, write_of}
use Rattle.memory.specs.declared.data.Datum.TheVariants.{Byte}
use Rattle.memory.specs.declared.faults.MemoryFault.{MemoryFault}
use Rattle.memory.proofs.Grants.{ok_err, put_ways, granted}
use Rattle.memory.proofs.Marks.{length_marked, marked_first, count_marked}
use Rattle.memory.proofs.PutLaws.{size_stays, pages_stay, put_valid}

-- P is kept by a put of any byte of which Q holds
module _ (P : Meaning → Type 0) (Q : ℕ → Type 0) (step : (m : Meaning) (a b : ℕ) → Q b → P m → P (put_of m a (b ∷ [])).1) where
  onward_keeps : (next : Meaning → Outcome) → ((k : Meaning) → P k → P (next k).1) → (r : Result (Unit {0}) MemoryFault) (k : Meaning) → P k
      → P (onward (r, k) next).1
  onward_keeps next rest (Ok u) k p = rest k p
  onward_keeps next rest (Err e) k p = p

  keeps : (bs : List ℕ) (m : Meaning) (a : ℕ) → ((i : ℕ) → Q (get_or bs i 0)) → P m → P (write_of m a bs).1
  keeps [] m a q p = p
  keeps (b ∷ bs) m a q p =
      onward_keeps (λ k. write_of k (a + 1) bs) (λ k. keeps bs k (a + 1) (λ i. q (suc i))) (put_of m a (b ∷ [])).0 (put_of m a (b ∷ [])).1 (step m a b (q 0) p)

-- any byte
abbrev Any : ℕ → Type 0
Any b = Unit {0}

pub write_size : WriteSize
write_size m a bs = keeps (λ k. k.size ≡ m.size) Any (λ k x b u e. size_stays k x (Byte b) ∙ e) bs m a (λ i. tt) refl

pub write_pages_stay : WritePagesStay
write_pages_stay m a p bs e = keeps (λ k. holds k p ≡ true) Any (λ k x b u h. pages_stay k x p (Byte b) h) bs m a (λ i. tt) e

pub write_valid : WriteValid
write_valid m a bs v o = keeps Valid (λ b. b < 256) (λ k x b l w. put_valid k x (Byte b) w (octet b l)) bs m a o v
  where
    octet : (b : ℕ) → b < 256 → Octets (b ∷ [])
    octet b l zero = l
    octet b l (suc i) = omega arith

-- a mark for each page
abbrev Marked : Meaning → Type 0
Marked m = length m.held * 256 ≡ m.size

put_marked : (m : Meaning) (a b : ℕ) → Marked m → Marked (put_of m a (b ∷ [])).1
put_marked m a b e =
    put_ways m a (b ∷ []) (λ r. Marked r.1) (λ h. e) (λ h l. e)
    (λ h l. ap (λ n. n * 256) (length_marked m.held (a / 256) (last_page a 1)) ∙ e)

put_count : (m : Meaning) (a b : ℕ) → Marked m → held_pages (put_of m a (b ∷ [])).1 + (put_of m a (b ∷ [])).1.free ≡ held_pages m + m.free
put_count m a b e =
    put_ways m a (b ∷ []) (λ r. held_pages r.1 + r.1.free ≡ held_pages m + m.free) (λ h. refl) (λ h l. refl)
    (λ h l. omega (arith, count_marked m.held (a / 256) (last_page a 1) (omega arith) (omega arith)))

pub write_pages_kept : WritePagesKept
write_pages_kept m a bs v =
    (keeps (λ k. Marked k × (held_pages k + k.free ≡ held_pages m + m.free)) Any
    (λ k x b u e. (put_marked k x b e.0, put_count k x b e.0 ∙ e.1)) bs m a (λ i. tt) (v.all_pages, refl)).1

-- the page of the first byte is held after its put and stays so; of the others the rest of the write says it
module _ (b : ℕ) (bs : List ℕ) (m n : Meaning) (a x : ℕ) (marked : Marked m) (l : a ≤ x) where
  holds_more : ((k : Meaning) → Marked k → Written k (a + 1) bs n → a + 1 ≤ x → holds n (x / 256) ≡ true) → (r : Result (Unit {0}) MemoryFault) (k : Meaning)
      → ◌≡◌ {A = Outcome} (put_of m a (b ∷ [])) (r, k) → ◌≡◌ {A = Outcome} (onward (r, k) (λ k. write_of k (a + 1) bs)) (Ok tt, n) → holds n (x / 256) ≡ true
  holds_more rest (Ok u) k p q =
      ⊎_elim
      (λ (e : x ≡ a).
      let t = granted m a (b ∷ []) k p in
      let first : holds k (a / 256) ≡ true =
      ap (λ y. holds y (a / 256)) t.2 ∙ marked_first m.held (a / 256) (last_page a 1) (omega (arith, t.0)) in
      ap (λ y. holds n (y / 256)) e ∙ (ap (λ r. holds r.1 (a / 256)) (sym q) ∙ write_pages_stay k (a + 1) (a / 256) bs first))
      (λ (ne : x ≡ a → ⊥). rest k (subst (λ r. Marked r.1) p (put_marked m a b marked)) q (omega arith))
      (cases_eq x a)
  holds_more rest (Err f) k p q = ok_err n k f (sym q)

holds_each : (bs : List ℕ) (m n : Meaning) (a x : ℕ) → Marked m → Written m a bs n → a ≤ x → x < a + length bs → holds n (x / 256) ≡ true
holds_each [] m n a x marked e l h = absurd (omega arith)
holds_each (b ∷ bs) m n a x marked e l h =
    holds_more b bs m n a x marked l (λ k s w r. holds_each bs k n (a + 1) x s w r (omega arith)) (put_of m a (b ∷ [])).0 (put_of m a (b ∷ [])).1 refl e

pub write_holds : WriteHolds
write_holds m n a x bs v e on =
    let t = and_parts _ _ on in
    holds_each bs m n a x v.all_pages e (leb-true a x t.0) (ltb-true x (a + length bs) t.1)
