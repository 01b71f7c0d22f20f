-- The verdict from its parts.
use Rattle.std.proofs.Common.{◌≡◌, ℕ, ◌*◌, ◌/◌, ◌%◌, ◌≤◌, Bool, true, false, not, ◌&&◌, eqb, leb, List, ◌++◌, length, drop, replicate, is_ok, is_err, Some, None, Ok, Err, Option, Result, sym, refl, ap, ◌∙◌, arith}
use Rattle.std.proofs.lemmas.Bool.{and_parts, leb-true, eqb-true, le-leb, true≢false, false≢true}
use Rattle.std.specs.Option.{option_or}
use Rattle.gate.specs.declared.entries.EntryRow.{EntryRow}
use Rattle.gate.specs.declared.refusals.Refusal.{Refusal}
use Rattle.gate.specs.Bitmaps.{bitmap, bit_at}
use Rattle.gate.specs.Entries.{row_fits}
use Rattle.gate.specs.Verdicts.{fits_length, wrong_at, misplaced, found, verdict_of, answer, shown_after, marks_after}
use Rattle.gate.specs.Walks.{is_start, is_target, stopped}
use Rattle.gate.proofs.Bits.{bit_of_all, length_bitmap}
use Rattle.gate.proofs.Firsts.{first_ext}
use Rattle.gate.proofs.Late.{IfLate, late_found, late_leaves}

pub record Size (n : ℕ) : Type 0 where
  pub most : n ≤ 65536
  pub whole : n ≡ 8 * (n / 8)

pub size_of : (n : ℕ) → true ≡ fits_length n → Size n
size_of n e =
    let q : (leb n 65536 && eqb (n % 32) 0) ≡ true = (and_parts (not (eqb n 0)) (leb n 65536 && eqb (n % 32) 0) (sym e)).1 in
    let p : (leb n 65536 ≡ true) × (eqb (n % 32) 0 ≡ true) = and_parts (leb n 65536) (eqb (n % 32) 0) q in
    let m : n % 32 ≡ 0 = eqb-true _ _ p.1 in
    let l : n / 8 ≤ 4 * (n / 32) = omega arith in
    let u : 4 * (n / 32) ≤ n / 8 = omega arith in
    record { most = leb-true _ _ p.0; whole = omega arith }

-- what the marks show is what the walk found
pub marks_show : (image : List ℕ) (k : ℕ) (starts targets : List ℕ) → length image ≡ 8 * k → starts ≡ bitmap (is_start image) k → targets ≡ bitmap (is_target image) k →
    misplaced (bit_at starts) (bit_at targets) (8 * length starts) ≡ misplaced (is_start image) (is_target image) (length image)
marks_show image k starts targets l s t =
    let n : length starts ≡ k = ap length s ∙ length_bitmap k (is_start image) in
    rw (l, n) (first_ext (8 * k) (wrong_at (bit_at starts) (bit_at targets)) (wrong_at (is_start image) (is_target image)) (λ i h. rw (s, t, bit_of_all (is_start image) k i h, bit_of_all (is_target image) k i h) refl))

pub passed : (o : Option Refusal) → Ok tt ≡ answer o → o ≡ None
passed None e = refl
passed (Some r) e = absurd (true≢false (ap is_ok e))

pub found_after : (image : List ℕ) (row : EntryRow) → stopped image row ≡ None → found image row ≡ misplaced (is_start image) (is_target image) (length image)
found_after image row e = ap (λ o. option_or o (misplaced (is_start image) (is_target image) (length image))) e

-- past the first three checks
pub verdict_is : (image : List ℕ) (row : EntryRow) (n s t : ℕ) → n ≡ length image → true ≡ fits_length n → n / 8 ≤ s → n / 8 ≤ t → true ≡ row_fits row n →
    verdict_of image row s t ≡ found image row
verdict_is image row n s t e size hs ht fits =
    let size' : fits_length (length image) ≡ true = sym (size ∙ ap fits_length e) in
    let fits' : row_fits row (length image) ≡ true = sym (fits ∙ ap (row_fits row) e) in
    let hs' : length image / 8 ≤ s = rw e at hs in
    let ht' : length image / 8 ≤ t = rw e at ht in
    rw (size', le-leb _ _ hs', le-leb _ _ ht', fits') refl

shown_before : (o : Option Refusal) (f : ℕ → Bool) (k : ℕ) (old : List ℕ) → IfLate o → shown_after o f k ++ drop k old ≡ marks_after o f k old
shown_before None f k old late = refl
shown_before (Some r) f k old late = sym (late_leaves r k old late)

-- what was shown, and the rest of a buffer behind it
pub shown_is : (image : List ℕ) (row : EntryRow) (f : ℕ → Bool) (n s t : ℕ) (shown old : List ℕ) → n ≡ length image → verdict_of image row s t ≡ found image row → shown ≡ shown_after (found image row) f (n / 8) →
    shown ++ drop (n / 8) old ≡ marks_after (verdict_of image row s t) f (length image / 8) old
shown_is image row f n s t shown old e d is =
    ap (λ xs. xs ++ drop (n / 8) old) is ∙ shown_before (found image row) f (n / 8) old (late_found image row) ∙ ap (λ n. marks_after (found image row) f (n / 8) old) e ∙ sym (ap (λ o. marks_after o f (length image / 8) old) d)

-- a whole image has a byte of marks for each eight bytes
pub eights : (n : ℕ) (image : List ℕ) → n ≡ length image → fits_length n ≡ true → length image ≡ 8 * (n / 8)
eights n image e fit = sym e ∙ (size_of n (sym fit)).whole

pub room_aside : (image : List ℕ) (row : EntryRow) (s t : ℕ) → length image / 8 ≤ s → length image / 8 ≤ t →
    verdict_of image row s t ≡ verdict_of image row (length image / 8) (length image / 8)
room_aside image row s t hs ht =
    let k : leb (length image / 8) (length image / 8) ≡ true = le-leb _ _ (omega arith) in
    rw (le-leb (length image / 8) s hs, le-leb (length image / 8) t ht, k) refl
