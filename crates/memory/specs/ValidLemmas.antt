-- What a flat and what a paged memory mean is valid: the lemmas that show the law of the trait. No contract cites them.
use Rattle.std.specs.Prelude.{◌≡◌, ℕ, ◌/◌, ◌%◌, ◌<◌, ◌≤◌, true, List, [], ◌∷◌, length, refl, zero, suc, false, replicate, slice_index, slice_index_or, ◌==◌, map, take, is_some, Some, None, Option}
use Rattle.std.proofs.Common.{ap, ◌∙◌, ⊎_elim, arith, sym}
use Rattle.std.proofs.lemmas.List.{length-replicate, get_or-replicate, get_or_past, length-map, length-take-le}
use Rattle.std.proofs.lemmas.Bool.{cases_lt, and_parts, leb-true, eqb-true, true≢false, or_cases}
use Rattle.memory.specs.Meaning.{Fit, fits, Valid, blank_memory}
use Rattle.memory.specs.Flats.{Kept, whole, flat_meaning}
use Rattle.memory.specs.Pages.{Mapped, Sound, cell, byte_at, paged_meaning}
use Rattle.std.proofs.lemmas.List.FromFn.{get_or-map-range_with_len, length-map-range_with_len}
use Rattle.std.specs.List.{range_with_len}

pub fit_from : (n : ℕ) → fits n ≡ true → Fit n
fit_from n e =
    let p = and_parts _ _ e in
    let q = and_parts _ _ p.1 in
    (leb-true 256 n p.0, leb-true n 1048576 q.0, eqb-true (n % 256) 0 q.1)

pub get_or_filled : {A : Type 0} (n k : ℕ) (d : A) → slice_index_or (replicate n d) k d ≡ d
get_or_filled zero k d = refl
get_or_filled (suc n) zero d = refl
get_or_filled (suc n) (suc k) d = get_or_filled n k d

pub blank_valid : (n k : ℕ) → Fit n → Valid (blank_memory n k)
unfolding blank_memory
blank_valid n k h =
    record {
      fit = h;
      all_bytes = length-replicate n 0;
      octets = λ i. rw (get_or_filled {A = ℕ} n i 0) (omega arith);
      all_pages = rw length-replicate (omega arith);
      blank = λ i no. get_or_filled {A = ℕ} n i 0;
    }

pub kept_fit : (xs : List ℕ) → Kept xs → 0 < length xs → Fit (length xs)
kept_fit xs kept h =
    ⊎_elim
    (λ e. absurd (omega (arith, eqb-true (length xs) 0 e)))
    (λ e. fit_from (length xs) e)
    (or_cases (length xs == 0) (fits (length xs)) kept)

pub whole_valid : (xs : List ℕ) → Fit (length xs) → ((k : ℕ) → slice_index xs k < 256) → Valid (whole xs)
whole_valid xs fit octets =
    record {
      fit = fit;
      all_bytes = refl;
      octets = octets;
      all_pages = rw length-replicate (omega arith);
      blank = λ k no.
          ⊎_elim
          (λ l. absurd (true≢false (sym (get_or-replicate (length xs / 256) (k / 256) true false (omega arith)) ∙ no)))
          (λ l. get_or_past xs k 0 l)
          (cases_lt k (length xs));
    }

pub flat_valid : (xs : List ℕ) → Kept xs → ((k : ℕ) → slice_index xs k < 256) → Valid (flat_meaning xs)
flat_valid [] kept octets = blank_valid 256 0 (omega arith, omega arith, refl)
flat_valid (x ∷ xs) kept octets = whole_valid (x ∷ xs) (kept_fit (x ∷ xs) kept (omega arith)) octets

pub none_of : (o : Option ℕ) → is_some o ≡ false → o ≡ None
none_of None e = refl
none_of (Some f) e = absurd (true≢false e)

pub held_at : (k : ℕ) (ts : List (Option ℕ)) (p : ℕ) → p < k → slice_index_or (map is_some (take k ts)) p false ≡ is_some (slice_index_or ts p None)
held_at zero ts p h = absurd (omega arith)
held_at (suc k) [] p h = refl
held_at (suc k) (t ∷ ts) zero h = refl
held_at (suc k) (t ∷ ts) (suc p) h = held_at k ts p (omega arith)

pub seen_at : (n : ℕ) (ts : List (Option ℕ)) (xs : List (List ℕ)) (a : ℕ) → a < n → slice_index (map (byte_at ts xs) (range_with_len 0 n)) a ≡ byte_at ts xs a
seen_at n ts xs a h = get_or-map-range_with_len (byte_at ts xs) 0 n a a 0 h (omega arith)

pub cell_octets : (xs : List (List ℕ)) (o : Option ℕ) (i used : ℕ) → ((f : ℕ) → o ≡ Some f → f < used) → Sound xs used → cell xs o i < 256
cell_octets xs None i used m sound = omega arith
cell_octets xs (Some f) i used m sound = (sound f (m f refl)).1 i

pub paged_valid : (n : ℕ) (ts : List (Option ℕ)) (xs : List (List ℕ)) (used : ℕ) → Fit n → length ts ≡ 4096 → Mapped ts used → Sound xs used
    → Valid (paged_meaning n ts xs used)
paged_valid n ts xs used fit pages mapped sound =
    record {
      fit = fit;
      all_bytes = length-map-range_with_len (byte_at ts xs) 0 n;
      octets = λ k.
          ⊎_elim
          (λ (l : k < n). rw (seen_at n ts xs k l) (cell_octets xs (slice_index_or ts (k / 256) None) (k % 256) used (mapped (k / 256)) sound))
          (λ (l : n ≤ k). rw (get_or_past (map (byte_at ts xs) (range_with_len 0 n)) k 0 (rw length-map-range_with_len l)) (omega arith))
          (cases_lt k n);
      all_pages =
          let k : length (map is_some (take (n / 256) ts)) ≡ n / 256 = length-map (take (n / 256) ts) is_some ∙ length-take-le (n / 256) ts (omega arith) in
          omega arith;
      blank = λ k off.
          ⊎_elim
          (λ (l : k < n).
          seen_at n ts xs k l ∙ ap (λ o. cell xs o (k % 256)) (none_of (slice_index_or ts (k / 256) None) (sym (held_at (n / 256) ts (k / 256) (omega arith)) ∙ off)))
          (λ (l : n ≤ k). get_or_past (map (byte_at ts xs) (range_with_len 0 n)) k 0 (rw length-map-range_with_len l))
          (cases_lt k n);
    }
