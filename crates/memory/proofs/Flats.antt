-- What a read and a put do in a flat memory.
use Rattle.memory.specs.ValidLemmas.{kept_fit}
use Rattle.std.specs.Prelude.{◌≡◌, ℕ, zero, suc, ◌+◌, ◌/◌, ◌<◌, ◌≤◌, Bool, true, false, cond, List, [], ◌∷◌, length, replicate, is_err, Ok, Err, Result, ◌==◌, slice_set, refl}
use Rattle.std.proofs.Common.{sym, ap, ◌∙◌, arith}
use Rattle.std.proofs.lemmas.List.{get_or-replicate}
use Rattle.std.proofs.lemmas.Bool.{true≢false, or_right}
use Rattle.memory.specs.Access.{Outcome, laid, lacking, last_page, stored, put_of, read_of, read_long_of}
use Rattle.memory.specs.Flats.{Kept, flat_check, whole, flat_meaning}
use Rattle.memory.specs.Meaning.{Fit, fits, unfit_memory}
use Rattle.memory.specs.declared.faults.MemoryFault.{MemoryFault}
use Rattle.memory.specs.declared.faults.MemoryFault.TheVariants.{NoFreePage}
use Rattle.memory.specs.declared.faults.Unfit.{Unfit}
use Rattle.memory.specs.declared.faults.Unfit.TheVariants.{Size}
use Rattle.memory.proofs.Blanks.{blank_size, unfit_read, unfit_read_long, unfit_put}
use Rattle.memory.proofs.Puts.{length_laid, meaning_same, put_ok}

pub empty_means : (xs : List ℕ) → length xs ≡ 0 → flat_meaning xs ≡ unfit_memory
empty_means [] e = refl
empty_means (x ∷ xs) e = absurd (omega arith)

pub kept_means : (xs : List ℕ) → 0 < length xs → flat_meaning xs ≡ whole xs
kept_means [] h = absurd (omega arith)
kept_means (x ∷ xs) h = refl

set_replicate : (n p : ℕ) → slice_set (replicate n true) p true ≡ replicate n true
set_replicate zero p = refl
set_replicate (suc n) zero = refl
set_replicate (suc n) (suc p) = ap (λ l. true ∷ l) (set_replicate n p)

none_lacking : (xs : List ℕ) (p q : ℕ) → p < length xs / 256 → q < length xs / 256 → lacking (whole xs) p q ≡ 0
none_lacking xs p q h l =
    rw (get_or-replicate (length xs / 256) p true false h, get_or-replicate (length xs / 256) q true false l) (cond_same (p == q))
  where
    cond_same : (b : Bool) → ◌≡◌ {A = ℕ} (0 + cond b 0 0) 0
    cond_same true = refl
    cond_same false = refl

module _ (xs bs : List ℕ) (a : ℕ) (t : Fit (length xs)) (some : 1 ≤ length bs) (h : a + length bs ≤ length xs) where
  flat_none : lacking (whole xs) (a / 256) (last_page a (length bs)) ≡ 0
  flat_none = none_lacking xs (a / 256) (last_page a (length bs)) (omega arith) (omega arith)

  flat_same : whole (laid xs a bs) ≡ stored (whole xs) a bs
  flat_same =
      meaning_same (whole (laid xs a bs)) (stored (whole xs) a bs) (length_laid bs xs a) refl
      (rw (length_laid bs xs a, set_replicate, set_replicate)) (rw flat_none)

  whole_put : ◌≡◌ {A = Outcome} (Ok tt, whole (laid xs a bs)) (put_of (whole xs) a bs)
  whole_put = ap (λ n. (Ok tt, n)) flat_same ∙ sym (put_ok (whole xs) a bs h (rw flat_none (omega arith)))

pub flat_put : (xs bs : List ℕ) (a : ℕ) → Kept xs → 1 ≤ length bs → a + length bs ≤ length xs
    → ◌≡◌ {A = Outcome} (Ok tt, flat_meaning (laid xs a bs)) (put_of (flat_meaning xs) a bs)
flat_put xs bs a kept some h =
    rw (kept_means xs (omega arith), kept_means (laid xs a bs) (rw (length_laid bs xs a) (omega arith)))
    (whole_put xs bs a (kept_fit xs kept (omega arith)) some h)

pub laid_kept : (xs bs : List ℕ) (a : ℕ) → Kept xs → Kept (laid xs a bs)
laid_kept xs bs a kept = rw (length_laid bs xs a) kept

-- an address that is past the buffer and inside the memory: the buffer is empty
pub past_means : (xs : List ℕ) (e : ℕ) → length xs < e → e ≤ (flat_meaning xs).size → (length xs ≡ 0) × (e ≤ 256)
past_means [] e h l = (refl, rw (blank_size 256 0) at l)
past_means (x ∷ xs) e h l = absurd (omega arith)

pub flat_read_none : (xs : List ℕ) (a : ℕ) → length xs ≤ a → a < (flat_meaning xs).size → ◌≡◌ {A = Result ℕ MemoryFault} (Ok 0) (read_of (flat_meaning xs) a)
flat_read_none xs a h l =
    let e = past_means xs (a + 1) (omega arith) (omega arith) in
    rw (empty_means xs e.0) (unfit_read a (omega (arith, e.1)))

pub flat_read_long_none : (xs : List ℕ) (a : ℕ) → length xs < a + 4 → a + 4 ≤ (flat_meaning xs).size → ◌≡◌ {A = Result ℕ MemoryFault} (Ok 0) (read_long_of (flat_meaning xs) a)
flat_read_long_none xs a h l =
    let e = past_means xs (a + 4) h l in
    rw (empty_means xs e.0) (unfit_read_long a e.1)

pub flat_put_none : (xs bs : List ℕ) (a : ℕ) → length xs < a + length bs → a + length bs ≤ (flat_meaning xs).size
    → ◌≡◌ {A = Outcome} (Err (NoFreePage a), flat_meaning xs) (put_of (flat_meaning xs) a bs)
flat_put_none xs bs a h l =
    let e = past_means xs (a + length bs) h l in
    rw (empty_means xs e.0) (unfit_put a bs e.1)

-- what the check lets through is kept
pub checked_kept : (xs : List ℕ) (n : ℕ) → n ≡ length xs → is_err (flat_check n) ≡ false → Kept xs
checked_kept xs n e good = or_right _ _ (go (fits (length xs)) (rw e at good))
  where
    go : (b : Bool) → is_err (cond {A = Result (Unit {0}) Unfit} b (Ok tt) (Err Size)) ≡ false → b ≡ true
    go true good = refl
    go false good = absurd (true≢false good)
