-- The test of an entry says that there is one.
use Rattle.std.proofs.Common.{◌≡◌, ℕ, ◌-◌, ◌/◌, ◌%◌, ◌<◌, ◌≤◌, Bool, true, false, ◌&&◌, eqb, ltb, leb, ◌⊎◌, List, refl, inl, inr, arith, ltb-true, lt-ltb, eq-eqb, eqb-true, le-leb, leb-true}
use Rattle.gate.specs.declared.entries.EntryRow.{EntryRow}
use Rattle.gate.specs.Entries.{is_entry}
use Rattle.gate.specs.Policy.{Placed, Lands, Entry}

and_left : (a b : Bool) → (a && b) ≡ true → a ≡ true
and_left true b e = refl
and_left false b e = e

and_right : (a b : Bool) → (a && b) ≡ true → b ≡ true
and_right true b e = e
and_right false b e = let z : ◌≡◌ {A = ℕ} 0 1 = cc in absurd (omega arith)

both_true : (a b : Bool) → a ≡ true → b ≡ true → (a && b) ≡ true
both_true true true p q = refl
both_true true false p q = q
both_true false b p q = p

entry_of : (row : EntryRow) (t : ℕ) → is_entry row t ≡ true → Entry row t
entry_of row t e =
    let l : row.base ≤ t = leb-true row.base t (and_left (leb row.base t) _ e) in
    let r = and_right (leb row.base t) _ e in
    let m : (t - row.base) % 32 ≡ 0 = eqb-true ((t - row.base) % 32) 0 (and_left (eqb ((t - row.base) % 32) 0) _ r) in
    let k : (t - row.base) / 32 < row.count = ltb-true ((t - row.base) / 32) row.count (and_right (eqb ((t - row.base) % 32) 0) _ r) in
    record { number = (t - row.base) / 32; below = k; stands = omega arith }

is_entry_lem : (row : EntryRow) (t : ℕ) → Entry row t → is_entry row t ≡ true
is_entry_lem row t x =
    let l : row.base ≤ t = omega (arith, x.stands) in
    let m : (t - row.base) % 32 ≡ 0 = omega (arith, x.stands) in
    let k : (t - row.base) / 32 < row.count = omega (arith, x.stands, x.below) in
    both_true (leb row.base t) _ (le-leb row.base t l)
    (both_true (eqb ((t - row.base) % 32) 0) (ltb ((t - row.base) / 32) row.count) (eq-eqb ((t - row.base) % 32) 0 m) (lt-ltb ((t - row.base) / 32) row.count k))

pub told : (row : EntryRow) (is : List Placed) (t : ℕ) → Lands is t ⊎ (is_entry row t ≡ true) → Lands is t ⊎ Entry row t
told row is t (inl x) = inl x
told row is t (inr e) = inr (entry_of row t e)

pub tested : (row : EntryRow) (is : List Placed) (t : ℕ) → Lands is t ⊎ Entry row t → Lands is t ⊎ (is_entry row t ≡ true)
tested row is t (inl x) = inl x
tested row is t (inr e) = inr (is_entry_lem row t e)
