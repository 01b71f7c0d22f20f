-- The laws of reads and puts.
use Rattle.std.proofs.Common.{◌≡◌, ℕ, ◌+◌, ◌-◌, ◌*◌, ◌/◌, ◌%◌, ◌<◌, ◌≤◌, Bool, true, false, List, length, get_or, Ok, Err, Result, sym, refl, ap, ◌∙◌, subst, ⊎_elim, arith}
use native.Mathlib.Nat.{div-div-eq-div-mul}
use Rattle.std.proofs.lemmas.List.{get_or_past}
use Rattle.std.proofs.lemmas.Bool.{true≢false, cases_lt, le-leb, and_from, lt-ltb, le-ltb, cond-true, cond-false}
use Rattle.memory.specs.Access.{laid, last_page, stored, read_long_of}
use Rattle.memory.specs.Data.{parts, long_at}
use Rattle.memory.specs.Laws.{held_pages, Granted, LongIsFour, ReadAfterPut, LongAfterPut, SizeStays, PagesStay, TouchedHeld, PagesKept, HeldGranted, RefusedSame, PutsCommute, PutValid}
use Rattle.memory.specs.Meaning.{Valid, holds}
use Rattle.memory.specs.declared.data.Datum.TheVariants.{Long}
use Rattle.memory.specs.declared.faults.MemoryFault.{MemoryFault}
use Rattle.memory.specs.declared.faults.MemoryFault.TheVariants.{Outside}
use Rattle.memory.proofs.Grants as grants
use Rattle.memory.proofs.Grants.{put_ways, granted}
use Rattle.memory.proofs.Laid.{laid_on, read_laid}
use Rattle.memory.proofs.Marks.{marked_keeps}
use Rattle.memory.proofs.Pages.{few_parts, none_lacking, stored_holds, stored_count, stored_valid}
use Rattle.memory.proofs.Puts.{some_part}
use Rattle.memory.proofs.Swaps.{swap_first, swap_second}

pub read_after_put : ReadAfterPut
read_after_put m n a x d v put =
    let t = granted m a (parts d) n put in
    read_laid m n a x (parts d) v.all_bytes t.0 (ap (λ k. k.size) t.2) (ap (λ k. k.bytes) t.2)

pub long_is_four : LongIsFour
long_is_four m a w e =
    ⊎_elim
    (λ (h : m.size < a + 4).
    let p : ◌≡◌ {A = Result ℕ MemoryFault} (Err (Outside a)) (Ok w) = sym (cond-true _ _ _ (lt-ltb m.size (a + 4) h)) ∙ e in
    let z : ◌≡◌ {A = ℕ} 0 1 = cc in
    absurd (omega arith))
    (λ (h : a + 4 ≤ m.size).
    let p : ◌≡◌ {A = Result ℕ MemoryFault} (Ok (long_at m.bytes a)) (Ok w) = sym (cond-false _ _ _ (le-ltb m.size (a + 4) h)) ∙ e in
    let q : long_at m.bytes a ≡ w = cc in
    let z : a + 0 ≡ a = omega arith in
    (λ i. get_or m.bytes (a + i) 0, λ i l. cond-true _ _ _ (lt-ltb (a + i) m.size (omega arith)), rw z (sym q)))
    (cases_lt m.size (a + 4))

digits : (w x y z a b c : ℕ) → a + x * 256 ≡ w → b + y * 256 ≡ x → c + z * 256 ≡ y → a + b * 256 + c * 65536 + z * 16777216 ≡ w
digits w x y z a b c e f g = omega arith

four_bytes : (w : ℕ) → w < 4294967296 → w % 256 + w / 256 % 256 * 256 + w / 65536 % 256 * 65536 + w / 16777216 % 256 * 16777216 ≡ w
four_bytes w h =
    let last : w / 16777216 % 256 ≡ w / 16777216 = omega arith in
    rw last
    (digits w (w / 256) (w / 65536) (w / 16777216) (w % 256) (w / 256 % 256) (w / 65536 % 256) (omega arith)
    (omega (arith, div-div-eq-div-mul w 256 256)) (omega (arith, div-div-eq-div-mul w 65536 256)))

module _ (xs : List ℕ) (a w : ℕ) (h : w < 4294967296) (l : a + 4 ≤ length xs) where
  part : (i x : ℕ) → i < 4 → x ≡ a + i → get_or (laid xs a (parts (Long w))) x 0 ≡ get_or (parts (Long w)) i 0
  part i x k e =
      let z : x - a ≡ i = omega arith in
      laid_on (parts (Long w)) xs a x (omega arith) (omega arith) (omega arith) ∙ ap (λ j. get_or (parts (Long w)) j 0) z

  long_laid : long_at (laid xs a (parts (Long w))) a ≡ w
  long_laid =
      let one : get_or (laid xs a (parts (Long w))) a 0 ≡ w % 256 = part 0 a (omega arith) (omega arith) in
      let two : get_or (laid xs a (parts (Long w))) (a + 1) 0 ≡ w / 256 % 256 = part 1 (a + 1) (omega arith) refl in
      let three : get_or (laid xs a (parts (Long w))) (a + 2) 0 ≡ w / 65536 % 256 = part 2 (a + 2) (omega arith) refl in
      let four : get_or (laid xs a (parts (Long w))) (a + 3) 0 ≡ w / 16777216 % 256 = part 3 (a + 3) (omega arith) refl in
      omega (arith, four_bytes w h)

pub long_after_put : LongAfterPut
long_after_put m n a w v h put =
    let t = granted m a (parts (Long w)) n put in
    ap (λ k. read_long_of k a) t.2
    ∙ (cond-false _ _ _ (le-ltb m.size (a + 4) t.0) ∙ ap Ok (long_laid m.bytes a w h (omega (arith, v.all_bytes, t.0))))

pub size_stays : SizeStays
size_stays m a d = put_ways m a (parts d) (λ r. r.1.size ≡ m.size) (λ h. refl) (λ h l. refl) (λ h l. refl)

pub pages_stay : PagesStay
pages_stay m a p d e =
    put_ways m a (parts d) (λ r. holds r.1 p ≡ true) (λ h. e) (λ h l. e) (λ h l. marked_keeps m.held (a / 256) (last_page a (length (parts d))) p e)

pub touched_held : TouchedHeld
touched_held m n a p d v put =
    let t = granted m a (parts d) n put in
    ap (λ k. holds k p) t.2 ∙ stored_holds m a (parts d) v (some_part d) (few_parts d) t.0 p

pub pages_kept : PagesKept
pages_kept m a d v =
    put_ways m a (parts d) (λ r. held_pages r.1 + r.1.free ≡ held_pages m + m.free) (λ h. refl) (λ h l. refl)
    (λ h l. omega (arith, stored_count m a (parts d) v (some_part d) (few_parts d) h))

-- a page that is held is one of the memory's
held_page : (h : List Bool) (p : ℕ) → get_or h p false ≡ true → p < length h
held_page h p e =
    ⊎_elim (λ (l : p < length h). l) (λ (l : length h ≤ p). absurd (true≢false (sym e ∙ get_or_past h p false l))) (cases_lt p (length h))

pub held_granted : HeldGranted
held_granted m a d v all =
    let k = length (parts d) in
    let some = some_part d in
    let first = all (a / 256) (and_from _ _ (le-leb (a / 256) (a / 256) (omega arith)) (le-leb (a / 256) (last_page a k) (omega arith))) in
    let last = all (last_page a k) (and_from _ _ (le-leb (a / 256) (last_page a k) (omega arith)) (le-leb (last_page a k) (last_page a k) (omega arith))) in
    let none = none_lacking m (a / 256) (last_page a k) first last in
    let page = held_page m.held (last_page a k) last in
    put_ways m a (parts d) (λ r. r.0 ≡ Ok tt) (λ h. absurd (omega (arith, v.all_pages))) (λ h l. absurd (omega arith)) (λ h l. refl)

pub refused_same : RefusedSame
refused_same m n a d e = grants.refused_same m a (parts d) n e

pub puts_commute : PutsCommute
puts_commute m m₁ m₂ a b d e v apart first second =
    let s = granted m a (parts d) m₁ first in
    let t = granted (stored m a (parts d)) b (parts e) m₂ (subst (λ k. Granted k b e m₂) s.2 second) in
    let some = some_part d in
    let some' = some_part e in (
      stored m b (parts e),
      swap_first m a b (parts d) (parts e) v (some_part d) (few_parts d) (some_part e) (few_parts e) apart s.0 t.0 s.1 t.1,
      subst (λ k. Granted (stored m b (parts e)) a d k) (sym t.2)
          (swap_second m a b (parts d) (parts e) v (some_part d) (few_parts d) (some_part e) (few_parts e) apart s.0 t.0 s.1 t.1),
    )

pub put_valid : PutValid
put_valid m a d v o =
    put_ways m a (parts d) (λ r. Valid r.1) (λ h. v) (λ h l. v) (λ h l. stored_valid m a (parts d) v (some_part d) (few_parts d) h o)
