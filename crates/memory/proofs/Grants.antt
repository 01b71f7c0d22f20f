-- A statement of a put by its three ways, and what a granted put says of the memory before and after it.
use Rattle.std.proofs.Common.{◌≡◌, ℕ, ◌+◌, ◌/◌, ◌<◌, ◌≤◌, List, length, Ok, Err, Result, sym, ap, subst, ⊎_elim, arith}
use Rattle.std.proofs.lemmas.Bool.{cases_lt}
use Rattle.memory.specs.Access.{Outcome, lacking, last_page, stored, put_of}
use Rattle.memory.specs.Meaning.{Meaning}
use Rattle.memory.specs.declared.faults.MemoryFault.{MemoryFault}
use Rattle.memory.specs.declared.faults.MemoryFault.TheVariants.{Outside, NoFreePage}
use Rattle.memory.proofs.Puts.{put_ok, put_full, put_outside}

pub ok_err : {A : Type 0} (m n : Meaning) (e : MemoryFault) → ◌≡◌ {A = Outcome} (Ok tt, m) (Err e, n) → A
ok_err m n e q =
    let p : ◌≡◌ {A = Result (Unit {0}) MemoryFault} (Ok tt) (Err e) = ap (λ r. r.0) q in
    let z : ◌≡◌ {A = ℕ} 0 1 = cc in
    absurd (omega arith)

module _ (m : Meaning) (a : ℕ) (bs : List ℕ) where
  pub put_ways : (P : Outcome → Type 0)
      → (m.size < a + length bs → P (Err (Outside a), m))
      → (a + length bs ≤ m.size → m.free < lacking m (a / 256) (last_page a (length bs)) → P (Err (NoFreePage a), m))
      → (a + length bs ≤ m.size → lacking m (a / 256) (last_page a (length bs)) ≤ m.free → P (Ok tt, stored m a bs))
      → P (put_of m a bs)
  put_ways P outside full ok =
      ⊎_elim
      (λ (h : m.size < a + length bs). subst P (sym (put_outside m a bs h)) (outside h))
      (λ (h : a + length bs ≤ m.size).
      ⊎_elim
      (λ (l : m.free < lacking m (a / 256) (last_page a (length bs))). subst P (sym (put_full m a bs h l)) (full h l))
      (λ (l : lacking m (a / 256) (last_page a (length bs)) ≤ m.free). subst P (sym (put_ok m a bs h l)) (ok h l))
      (cases_lt m.free (lacking m (a / 256) (last_page a (length bs)))))
      (cases_lt m.size (a + length bs))

  pub granted : (n : Meaning) → ◌≡◌ {A = Outcome} (put_of m a bs) (Ok tt, n)
      → (a + length bs ≤ m.size) × (lacking m (a / 256) (last_page a (length bs)) ≤ m.free) × (n ≡ stored m a bs)
  granted n =
      put_ways (λ r. r ≡ (Ok tt, n) → (a + length bs ≤ m.size) × (lacking m (a / 256) (last_page a (length bs)) ≤ m.free) × (n ≡ stored m a bs))
      (λ h q. ok_err n m (Outside a) (sym q))
      (λ h l q. ok_err n m (NoFreePage a) (sym q))
      (λ h l q. (h, l, ap (λ r. r.1) (sym q)))

  pub refused_same : (n : Meaning) (e : MemoryFault) → ◌≡◌ {A = Outcome} (put_of m a bs) (Err e, n) → n ≡ m
  refused_same n e =
      put_ways (λ r. r ≡ (Err e, n) → n ≡ m)
      (λ h q. ap (λ r. r.1) (sym q)) (λ h l q. ap (λ r. r.1) (sym q)) (λ h l q. ok_err (stored m a bs) n e q)
