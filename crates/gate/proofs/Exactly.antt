-- An image passes exactly when it meets the policy.
use Rattle.std.proofs.Common.{◌≡◌, ℕ, ◌/◌, ◌≤◌, Bool, true, false, not, ◌&&◌, leb, List, length, is_some, is_ok, Some, None, Option, Result, sym, refl, ap, ◌∙◌, arith, le-leb}
use Rattle.std.specs.Option.{option_or}
use Rattle.x86.specs.Octets.{Octets}
use Rattle.gate.specs.declared.entries.EntryRow.{EntryRow}
use Rattle.gate.specs.declared.refusals.Refusal.{Refusal}
use Rattle.gate.specs.declared.refusals.Refusal.TheVariants.{Length, Marks, Row}
use Rattle.gate.specs.Entries.{row_fits}
use Rattle.gate.specs.Exact.{ExactlyPolicy, PassesMeet}
use Rattle.gate.specs.Verdicts.{fits_length, found, unless, verdict_of, answer}
use Rattle.gate.proofs.Obeys.{obeys}
use Rattle.gate.proofs.Admits.{admits}

both_true : (a b : Bool) → a ≡ true → b ≡ true → (a && b) ≡ true
both_true true true p q = refl
both_true true false p q = q
both_true false b p q = p

-- a check that is met refuses nothing
met : (t : Bool) (r : Refusal) (o : Option Refusal) → t ≡ true → option_or (unless t r) o ≡ o
met true r o e = refl
met false r o e = let z : ◌≡◌ {A = ℕ} 0 1 = cc in absurd (omega arith)

past : (image : List ℕ) (row : EntryRow) (s t : ℕ) → fits_length (length image) ≡ true → length image / 8 ≤ s → length image / 8 ≤ t → row_fits row (length image) ≡ true →
    verdict_of image row s t ≡ found image row
past image row s t l hs ht w =
    met (fits_length (length image)) Length _ l
    ∙ met (leb (length image / 8) s && leb (length image / 8) t) Marks _ (both_true (leb (length image / 8) s) (leb (length image / 8) t) (le-leb (length image / 8) s hs) (le-leb (length image / 8) t ht))
    ∙ met (row_fits row (length image)) Row _ w

passing : (o : Option Refusal) → is_ok (answer o) ≡ true → o ≡ None
passing None e = refl
passing (Some r) e = let z : ◌≡◌ {A = ℕ} 0 1 = cc in absurd (omega arith)

pub exactly : (image : List ℕ) (row : EntryRow) (s t : ℕ) (r : Result (Unit {0}) Refusal) → (fits_length (length image) ≡ true → Octets image 0 (length image)) → r ≡ answer (verdict_of image row s t) → ExactlyPolicy image row s t (is_ok r)
exactly image row s t r o e l hs ht w =
    let v = e ∙ ap answer (past image row s t l hs ht w) in
    (λ ok. obeys image row (o l) (passing (found image row) (sym (ap is_ok v) ∙ ok)), λ m. ap is_ok (v ∙ ap answer (admits image row w m)))

-- nothing refuses: so the last check does not
last_none : (a b : Option Refusal) → option_or a b ≡ None → b ≡ None
last_none None b e = e
last_none (Some r) b e = let z : ◌≡◌ {A = ℕ} 0 1 = cc in absurd (omega arith)

none_of : (o : Option Refusal) → not (is_some o) ≡ true → o ≡ None
none_of None e = refl
none_of (Some r) e = let z : ◌≡◌ {A = ℕ} 0 1 = cc in absurd (omega arith)

-- what passes meets the policy
pub passes_meet : PassesMeet
passes_meet image row o e =
    obeys image row o
    (last_none (unless (row_fits row (length image)) Row) (found image row)
    (last_none (unless (leb (length image / 8) (length image / 8) && leb (length image / 8) (length image / 8)) Marks) _
    (last_none (unless (fits_length (length image)) Length) _ (none_of (verdict_of image row (length image / 8) (length image / 8)) e))))
