-- What a table over frames means: after a page is given a frame, and after bytes are written into a frame.
use Rattle.memory.specs.ValidLemmas.{seen_at}
use Rattle.std.specs.Prelude.{◌≡◌, ℕ, zero, suc, ◌+◌, ◌-◌, ◌*◌, ◌/◌, ◌%◌, ◌<◌, ◌≤◌, Bool, false, cond, ◌≢◌, List, [], ◌∷◌, map, length, get_or, take, set, replicate, is_some, Some, None, Option, slice_index, slice_index_or, slice_set, refl}
use Rattle.std.proofs.Common.{sym, ap, ◌∙◌, ⊎_elim, arith}
use Rattle.std.proofs.Math.Path.{fun_ext}
use Rattle.std.proofs.lemmas.List.{length-set, length-map, length-take-le, length-replicate, map-set, get_or-set_same, get_or-set_other, ext_get_or, set-get_or, set-set}
use Rattle.std.proofs.lemmas.Bool.{cases_eq}
use Rattle.std.proofs.lemmas.List.FromFn.{length-map-range_with_len}
use Rattle.std.specs.List.{range_with_len}
use Rattle.memory.specs.Access.{lacks, laid}
use Rattle.memory.specs.Data.{long_at}
use Rattle.memory.specs.Meaning.{blank_memory}
use Rattle.memory.specs.Holding.{with_page, with_bytes}
use Rattle.memory.specs.Pages.{cell, byte_at, paged_meaning, Mapped, Apart}
use Rattle.memory.specs.ValidLemmas.{get_or_filled}
use Rattle.memory.proofs.Puts.{meaning_same}
use Rattle.memory.specs.ValidLemmas.{held_at}
use Rattle.memory.proofs.Tables.{take_set_at}

bytes_same : (n : ℕ) (f g : ℕ → ℕ) → ((k : ℕ) → f k ≡ g k) → map f (range_with_len 0 n) ≡ map g (range_with_len 0 n)
bytes_same n f g e = ap (λ (h : ℕ → ℕ). map h (range_with_len 0 n)) (fun_ext e)

pub lacks_at : (n : ℕ) (ts : List (Option ℕ)) (xs : List (List ℕ)) (u p : ℕ) → p < n / 256 → lacks (paged_meaning n ts xs u) p ≡ cond (is_some (slice_index_or ts p None)) 0 1
lacks_at n ts xs u p h = ap (λ b. cond b 0 1) (held_at (n / 256) ts p h)

pub lacks_some : (n : ℕ) (ts : List (Option ℕ)) (xs : List (List ℕ)) (u p f : ℕ) → p < n / 256 → slice_index_or ts p None ≡ Some f → lacks (paged_meaning n ts xs u) p ≡ 0
lacks_some n ts xs u p f h at = lacks_at n ts xs u p h ∙ ap (λ o. cond {A = ℕ} (is_some o) 0 1) at

pub lacks_none : (n : ℕ) (ts : List (Option ℕ)) (xs : List (List ℕ)) (u p : ℕ) → p < n / 256 → slice_index_or ts p None ≡ None → lacks (paged_meaning n ts xs u) p ≡ 1
lacks_none n ts xs u p h at = lacks_at n ts xs u p h ∙ ap (λ o. cond {A = ℕ} (is_some o) 0 1) at

-- a table without frames
all_zero : (a m : ℕ) → map {B = ℕ} (λ (_ : ℕ). 0) (range_with_len a m) ≡ replicate m 0
all_zero a zero = refl
all_zero a (suc m) = ap (λ l. 0 ∷ l) (all_zero (a + 1) m)

pub fresh_same : (n : ℕ) (ts : List (Option ℕ)) (xs : List (List ℕ)) → n / 256 ≤ length ts → ((p : ℕ) → slice_index_or ts p None ≡ None)
    → paged_meaning n ts xs 0 ≡ blank_memory n (length xs)
unfolding blank_memory
fresh_same n ts xs long none =
    meaning_same (paged_meaning n ts xs 0) (blank_memory n (length xs)) refl
    (bytes_same n (byte_at ts xs) (λ _. 0) (λ k. ap (λ o. cell xs o (k % 256)) (none (k / 256))) ∙ all_zero 0 n)
    (ext_get_or false (map is_some (take (n / 256) ts)) (replicate (n / 256) false)
    (length-map (take (n / 256) ts) is_some ∙ (length-take-le (n / 256) ts long ∙ sym (length-replicate (n / 256) false)))
    (λ i h.
    let l : i < n / 256 = omega (arith, length-map (take (n / 256) ts) is_some, length-take-le (n / 256) ts long) in
    held_at (n / 256) ts i l ∙ (ap is_some (none i) ∙ sym (get_or_filled {A = Bool} (n / 256) i false))))
    (omega arith)

-- reads
module _ (n : ℕ) (ts : List (Option ℕ)) (xs : List (List ℕ)) where
  pub read_at : (a : ℕ) (o : Option ℕ) → a < n → slice_index_or ts (a / 256) None ≡ o → slice_index (map (byte_at ts xs) (range_with_len 0 n)) a ≡ cell xs o (a % 256)
  read_at a o h at = seen_at n ts xs a h ∙ ap (λ y. cell xs y (a % 256)) at

  within : (a j : ℕ) (o : Option ℕ) → a + j < n → a % 256 + j < 256 → slice_index_or ts (a / 256) None ≡ o
      → slice_index (map (byte_at ts xs) (range_with_len 0 n)) (a + j) ≡ cell xs o (a % 256 + j)
  within a j o h l at =
      let p : (a + j) / 256 ≡ a / 256 = omega arith in
      let q : (a + j) % 256 ≡ a % 256 + j = omega arith in
      seen_at n ts xs (a + j) h ∙ (ap (λ y. cell xs (slice_index_or ts y None) ((a + j) % 256)) p ∙ (ap (λ y. cell xs y ((a + j) % 256)) at ∙ ap (cell xs o) q))

  pub long_within : (a : ℕ) (o : Option ℕ) → a + 4 ≤ n → a % 256 ≤ 252 → slice_index_or ts (a / 256) None ≡ o
      → long_at (map (byte_at ts xs) (range_with_len 0 n)) a
      ≡ cell xs o (a % 256) + cell xs o (a % 256 + 1) * 256 + cell xs o (a % 256 + 2) * 65536 + cell xs o (a % 256 + 3) * 16777216
  long_within a o h l at =
      let b0 = read_at a o (omega arith) at in
      let b1 = within a 1 o (omega arith) (omega arith) at in
      let b2 = within a 2 o (omega arith) (omega arith) at in
      let b3 = within a 3 o (omega arith) (omega arith) at in
      rw (b0, b1, b2, b3)

-- page p, without a frame, gets the frame `used`, with ys in it, which are zeros
module _ (n : ℕ) (ts : List (Option ℕ)) (xs : List (List ℕ)) (used p : ℕ) (ys : List ℕ)
    (h : p < n / 256) (long : n / 256 ≤ length ts) (none : get_or ts p None ≡ None) (l : used < length xs) (zeros : (k : ℕ) → slice_index ys k ≡ 0) (mapped : Mapped ts used) where
  cell_hold : (o : Option ℕ) (i : ℕ) → ((f : ℕ) → o ≡ Some f → f < used) → cell (slice_set xs used ys) o i ≡ cell xs o i
  cell_hold None i m = refl
  cell_hold (Some g) i m = ap (λ y. slice_index y i) (get_or-set_other xs used g ys [] (let q : g < used = m g refl in omega arith))

  seen_hold : (k : ℕ) → byte_at (slice_set ts p (Some used)) (slice_set xs used ys) k ≡ byte_at ts xs k
  seen_hold k =
      ⊎_elim
      (λ (e : k / 256 ≡ p). rw (e, get_or-set_same ts p (Some used) None (omega arith), none, get_or-set_same xs used ys [] l) (zeros (k % 256)))
      (λ (ne : k / 256 ≡ p → ⊥).
      ap (λ o. cell (slice_set xs used ys) o (k % 256)) (get_or-set_other ts p (k / 256) (Some used) None ne)
      ∙ cell_hold (slice_index_or ts (k / 256) None) (k % 256) (mapped (k / 256)))
      (cases_eq (k / 256) p)

  pub hold_same : paged_meaning n (slice_set ts p (Some used)) (slice_set xs used ys) (used + 1) ≡ with_page (paged_meaning n ts xs used) p
  hold_same =
      meaning_same (paged_meaning n (slice_set ts p (Some used)) (slice_set xs used ys) (used + 1)) (with_page (paged_meaning n ts xs used) p)
      refl
      (bytes_same n (byte_at (slice_set ts p (Some used)) (slice_set xs used ys)) (byte_at ts xs) seen_hold)
      (ap (map is_some) (take_set_at (n / 256) ts p (Some used)) ∙ map-set is_some (take (n / 256) ts) p (Some used))
      (omega (arith, length-set xs used ys, lacks_none n ts xs used p h none))

-- bytes are written into the frame f of page p
module _ (n : ℕ) (ts : List (Option ℕ)) (p f : ℕ) (at : get_or ts p None ≡ Some f) (apart : Apart ts) (inside : p * 256 < n) (whole : n % 256 ≡ 0) where
  cell_other : (xs : List (List ℕ)) (o : Option ℕ) (i j b : ℕ) → ((g : ℕ) → o ≡ Some g → g ≡ f → i ≢ j) → f < length xs
      → cell (slice_set xs f (slice_set (slice_index_or xs f []) j b)) o i ≡ cell xs o i
  cell_other xs None i j b ne l = refl
  cell_other xs (Some g) i j b ne l =
      ⊎_elim
      (λ (e : g ≡ f). rw (e, get_or-set_same xs f (slice_set (slice_index_or xs f []) j b) [] l) (get_or-set_other (slice_index_or xs f []) j i b 0 (ne g refl e)))
      (λ (d : g ≡ f → ⊥). ap (λ y. slice_index y i) (get_or-set_other xs f g (slice_set (slice_index_or xs f []) j b) [] d))
      (cases_eq g f)

  byte_same : (xs : List (List ℕ)) (o b : ℕ) → f < length xs → o < length (slice_index_or xs f []) → o < 256
      → map (byte_at ts (slice_set xs f (slice_set (slice_index_or xs f []) o b))) (range_with_len 0 n) ≡ slice_set (map (byte_at ts xs) (range_with_len 0 n)) (p * 256 + o) b
  byte_same xs o b l k m =
      let a : p * 256 + o < n = omega arith in
      let ap/ : (p * 256 + o) / 256 ≡ p = omega arith in
      let am/ : (p * 256 + o) % 256 ≡ o = omega arith in
      ext_get_or 0 (map (byte_at ts (slice_set xs f (slice_set (slice_index_or xs f []) o b))) (range_with_len 0 n)) (slice_set (map (byte_at ts xs) (range_with_len 0 n)) (p * 256 + o) b)
      (length-map-range_with_len (byte_at ts (slice_set xs f (slice_set (slice_index_or xs f []) o b))) 0 n ∙ sym (length-set (map (byte_at ts xs) (range_with_len 0 n)) (p * 256 + o) b ∙ length-map-range_with_len (byte_at ts xs) 0 n))
      (λ i hi.
      let hn : i < n = rw length-map-range_with_len at hi in
      ⊎_elim
      (λ (e : i ≡ p * 256 + o).
      rw e (seen_at n ts (slice_set xs f (slice_set (slice_index_or xs f []) o b)) (p * 256 + o) a
      ∙ (rw (ap/, am/, at, get_or-set_same xs f (slice_set (slice_index_or xs f []) o b) [] l) (get_or-set_same (slice_index_or xs f []) o b 0 k)
      ∙ sym (get_or-set_same (map (byte_at ts xs) (range_with_len 0 n)) (p * 256 + o) b 0 (rw length-map-range_with_len a)))))
      (λ (ne : i ≡ p * 256 + o → ⊥).
      seen_at n ts (slice_set xs f (slice_set (slice_index_or xs f []) o b)) i hn
      ∙ (cell_other xs (slice_index_or ts (i / 256) None) (i % 256) o b
      (λ g e same eq. let q : i / 256 ≡ p = apart (i / 256) p (rw (e, at) same) in ne (omega arith)) l
      ∙ sym (get_or-set_other (map (byte_at ts xs) (range_with_len 0 n)) (p * 256 + o) i b 0 ne ∙ seen_at n ts xs i hn)))
      (cases_eq i (p * 256 + o)))

  bytes_written : (bs : List ℕ) (xs : List (List ℕ)) (o : ℕ) → f < length xs → length (slice_index_or xs f []) ≡ 256 → o + length bs ≤ 256
      → map (byte_at ts (slice_set xs f (laid (slice_index_or xs f []) o bs))) (range_with_len 0 n) ≡ laid (map (byte_at ts xs) (range_with_len 0 n)) (p * 256 + o) bs
  bytes_written [] xs o l k h = ap (λ y. map (byte_at ts y) (range_with_len 0 n)) (set-get_or xs f [])
  bytes_written (b ∷ bs) xs o l k h =
      let here : get_or (slice_set xs f (slice_set (slice_index_or xs f []) o b)) f [] ≡ set (slice_index_or xs f []) o b = get_or-set_same xs f (slice_set (slice_index_or xs f []) o b) [] l in
      let rest = bytes_written bs (slice_set xs f (slice_set (slice_index_or xs f []) o b)) (o + 1) (rw length-set l) (ap length here ∙ (length-set (slice_index_or xs f []) o b ∙ k)) (omega arith) in
      let again : set (slice_set xs f (slice_set (slice_index_or xs f []) o b)) f (laid (slice_set (slice_index_or xs f []) o b) (o + 1) bs) ≡ set xs f (laid (slice_set (slice_index_or xs f []) o b) (o + 1) bs) = set-set xs f (slice_set (slice_index_or xs f []) o b) (laid (slice_set (slice_index_or xs f []) o b) (o + 1) bs) in
      let sum : p * 256 + (o + 1) ≡ p * 256 + o + 1 = omega arith in
      sym (ap (λ y. map (byte_at ts y) (range_with_len 0 n)) (ap (λ z. set (slice_set xs f (slice_set (slice_index_or xs f []) o b)) f (laid z (o + 1) bs)) here ∙ again))
      ∙ (rest ∙ (ap (λ y. laid y (p * 256 + (o + 1)) bs) (byte_same xs o b l (omega arith) (omega arith)) ∙ ap (λ y. laid (slice_set (map (byte_at ts xs) (range_with_len 0 n)) (p * 256 + o) b) y bs) sum))

  pub write_same : (xs : List (List ℕ)) (used a : ℕ) (bs : List ℕ) → a / 256 ≡ p → f < length xs → length (slice_index_or xs f []) ≡ 256 → a % 256 + length bs ≤ 256
      → paged_meaning n ts (slice_set xs f (laid (slice_index_or xs f []) (a % 256) bs)) used ≡ with_bytes (paged_meaning n ts xs used) a bs
  write_same xs used a bs e l k h =
      let sum : p * 256 + a % 256 ≡ a = omega arith in
      meaning_same (paged_meaning n ts (slice_set xs f (laid (slice_index_or xs f []) (a % 256) bs)) used) (with_bytes (paged_meaning n ts xs used) a bs)
      refl
      (bytes_written bs xs (a % 256) l k h ∙ ap (λ y. laid (map (byte_at ts xs) (range_with_len 0 n)) y bs) sum)
      refl
      (ap (λ y. y - used) (length-set xs f (laid (slice_index_or xs f []) (a % 256) bs)))
