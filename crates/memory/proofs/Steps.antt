-- A put as steps: its pages are held, then its bytes are laid.
use Rattle.std.proofs.Common.{◌≡◌, ℕ, ◌+◌, ◌-◌, ◌/◌, ◌%◌, ◌<◌, ◌≤◌, true, false, cond, eqb, List, length, set, Some, None, Option, Ok, Err, Result, sym, refl, ap, ◌∙◌, arith}
use Rattle.std.proofs.lemmas.List.{get_or-set_other, set-set}
use Rattle.std.proofs.lemmas.Bool.{eq-eqb, ne_eqb, cond-true, cond-false}
use Rattle.std.specs.Option.{ok_or}
use Rattle.memory.specs.Access.{Outcome, lacks, lacking, last_page, stored, put_of}
use Rattle.memory.specs.Meaning.{Meaning}
use Rattle.memory.specs.Holding.{BothHeld, PageHeld, with_page, with_bytes}
use Rattle.memory.specs.declared.faults.MemoryFault.{MemoryFault}
use Rattle.memory.specs.declared.faults.MemoryFault.TheVariants.{NoFreePage}
use Rattle.memory.proofs.Puts.{meaning_same, put_ok, put_full}

-- an option that stands for a refusal where it is none
module _ {T : Type 0} (o : Option T) (e : MemoryFault) (r : Result T MemoryFault) (value : r ≡ ok_or o e) where
  pub refused : (f d : MemoryFault) (s : Result (Unit {0}) MemoryFault) → r ≡ Err f → s ≡ Err d → d ≡ f → (o ≡ None) × (s ≡ Err e)
  refused f d s was p q = by_cases o value
    where
      by_cases : (o : Option T) → r ≡ ok_or o e → (o ≡ None) × (s ≡ Err e)
      by_cases None v = (refl, cc)
      by_cases (Some x) v = let z : ◌≡◌ {A = ℕ} 0 1 = cc in absurd (omega arith)

  pub granted : (x : T) → r ≡ Ok x → o ≡ Some x
  granted x was = by_cases o value
    where
      by_cases : (o : Option T) → r ≡ ok_or o e → o ≡ Some x
      by_cases None v = let z : ◌≡◌ {A = ℕ} 0 1 = cc in absurd (omega arith)
      by_cases (Some y) v = cc

-- in one page
lacking_one : (m : Meaning) (p : ℕ) → lacking m p p ≡ lacks m p
lacking_one m p = let e = cond-true (eqb p p) 0 (lacks m p) (eq-eqb p p refl) in omega (arith, e)

module _ (m : Meaning) (a : ℕ) (bs : List ℕ) (some : 1 ≤ length bs) (h : a + length bs ≤ m.size) (l : a % 256 + length bs ≤ 256) where
  one_page : last_page a (length bs) ≡ a / 256
  one_page = omega arith

  needs_one : lacking m (a / 256) (last_page a (length bs)) ≡ lacks m (a / 256)
  needs_one = ap (lacking m (a / 256)) one_page ∙ lacking_one m (a / 256)

  pub within_full : (n : Meaning) (table : List (Option ℕ)) → PageHeld m (a / 256) n table None → ◌≡◌ {A = Outcome} (Err (NoFreePage a), n) (put_of m a bs)
  within_full n table held = rw held.0 (sym (put_full m a bs h (omega (arith, needs_one, held.1))))

  pub within_ok : (n o : Meaning) (table : List (Option ℕ)) (f : ℕ) → PageHeld m (a / 256) n table (Some f) → o ≡ with_bytes n a bs
      → ◌≡◌ {A = Outcome} (Ok tt, o) (put_of m a bs)
  within_ok n o table f held g =
      ap (λ x. (Ok tt, x)) (g ∙ (ap (λ x. with_bytes x a bs) held.0 ∙ same)) ∙ sym (put_ok m a bs h (omega (arith, needs_one, held.1)))
    where
      same : with_bytes (with_page m (a / 256)) a bs ≡ stored m a bs
      same =
          meaning_same (with_bytes (with_page m (a / 256)) a bs) (stored m a bs) refl refl
          (sym (ap (λ q. set (set m.held (a / 256) true) q true) one_page ∙ set-set m.held (a / 256) true true))
          (ap (λ k. m.free - k) (sym needs_one))

-- in two pages
module _ (m : Meaning) (p : ℕ) where
  pub lacks_next : lacks (with_page m p) (p + 1) ≡ lacks m (p + 1)
  lacks_next = ap (λ b. cond {A = ℕ} b 0 1) (get_or-set_other m.held p (p + 1) true false (omega arith))

module _ (m : Meaning) (a : ℕ) (bs : List ℕ) (four : length bs ≡ 4) (h : a + 4 ≤ m.size) (l : 252 < a % 256) where
  next_page : last_page a (length bs) ≡ a / 256 + 1
  next_page = omega arith

  needs_two : lacking m (a / 256) (last_page a (length bs)) ≡ lacks m (a / 256) + lacks m (a / 256 + 1)
  needs_two =
      ap (lacking m (a / 256)) next_page
      ∙ ap (λ k. lacks m (a / 256) + k) (cond-false (eqb (a / 256) (a / 256 + 1)) 0 (lacks m (a / 256 + 1)) (ne_eqb (a / 256) (a / 256 + 1) (omega arith)))

  pub across_full : (n : Meaning) → BothHeld m (a / 256) n None → ◌≡◌ {A = Outcome} (Err (NoFreePage a), n) (put_of m a bs)
  across_full n held = rw held.0 (sym (put_full m a bs (omega arith) (omega (arith, needs_two, held.1))))

  pub across_ok : (n o : Meaning) → BothHeld m (a / 256) n (Some tt) → o ≡ with_bytes n a bs → ◌≡◌ {A = Outcome} (Ok tt, o) (put_of m a bs)
  across_ok n o held g =
      ap (λ x. (Ok tt, x)) (g ∙ (ap (λ x. with_bytes x a bs) held.0 ∙ same)) ∙ sym (put_ok m a bs (omega arith) (omega (arith, needs_two, held.1)))
    where
      same : with_bytes (with_page (with_page m (a / 256)) (a / 256 + 1)) a bs ≡ stored m a bs
      same =
          meaning_same (with_bytes (with_page (with_page m (a / 256)) (a / 256 + 1)) a bs) (stored m a bs) refl refl
          (sym (ap (λ q. set (set m.held (a / 256) true) q true) next_page))
          (omega (arith, needs_two, lacks_next m (a / 256)))
