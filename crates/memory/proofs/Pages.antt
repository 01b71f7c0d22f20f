-- The pages that a put touches: which are held after it, and how many.
use Rattle.std.proofs.Common.{◌≡◌, ℕ, ◌+◌, ◌*◌, ◌/◌, ◌<◌, ◌≤◌, Bool, true, false, cond, ◌||◌, List, length, get_or, sym, refl, ap, ◌∙◌, ⊎_elim, arith}
use Rattle.std.proofs.lemmas.Bool.{true≢false, cases_eq, cases_lt, le-leb, lt-leb, and_from, and_left, and_right, or_parts, or_right}
use Rattle.memory.specs.Access.{lacking, last_page, stored}
use Rattle.memory.specs.Data.{parts}
use Rattle.memory.specs.Laws.{touches, held_pages}
use Rattle.memory.specs.Meaning.{Meaning, Valid, Octets, holds}
use Rattle.memory.specs.declared.data.Datum.{Datum}
use Rattle.memory.specs.declared.data.Datum.TheVariants.{Byte, Long}
use Rattle.memory.proofs.Laid.{Off, on_or_off, laid_off, laid_octets}
use Rattle.memory.proofs.Marks.{marked, length_marked, marked_first, marked_last, marked_other, count_marked}
use Rattle.memory.proofs.Puts.{length_laid}

pub few_parts : (d : Datum) → length (parts d) ≤ 4
few_parts (Byte b) = omega arith
few_parts (Long n) = omega arith

or_same : (x y : Bool) → y ≡ false → (x || y) ≡ x
or_same true y e = refl
or_same false y e = e

pub none_lacking : (m : Meaning) (p q : ℕ) → holds m p ≡ true → holds m q ≡ true → lacking m p q ≡ 0
none_lacking m p q h l = rw (h, l) (go _)
  where
    go : (b : Bool) → ◌≡◌ {A = ℕ} (0 + cond b 0 0) 0
    go true = refl
    go false = refl

module _ (m : Meaning) (a : ℕ) (bs : List ℕ) (v : Valid m) (some : 1 ≤ length bs) (few : length bs ≤ 4) (h : a + length bs ≤ m.size) where
  pub first_page : a / 256 < length m.held
  first_page = omega (arith, v.all_pages)

  pub last_page_lem : last_page a (length bs) < length m.held
  last_page_lem = omega (arith, v.all_pages)

  touched : (p : ℕ) → a / 256 ≤ p → p ≤ last_page a (length bs) → touches a (length bs) p ≡ true
  touched p l r = and_from _ _ (le-leb (a / 256) p l) (le-leb p (last_page a (length bs)) r)

  untouched : (p : ℕ) → (p ≡ a / 256 → ⊥) → (p ≡ last_page a (length bs) → ⊥) → touches a (length bs) p ≡ false
  untouched p n k =
      ⊎_elim
      (λ (l : p < a / 256). and_left _ _ (lt-leb (a / 256) p l))
      (λ (l : a / 256 ≤ p). and_right _ _ (lt-leb p (last_page a (length bs)) (omega arith)))
      (cases_lt p (a / 256))

  pub stored_holds : (p : ℕ) → holds (stored m a bs) p ≡ (holds m p || touches a (length bs) p)
  stored_holds p =
      ⊎_elim
      (λ (e : p ≡ a / 256).
      ap (λ q. get_or (marked m.held (a / 256) (last_page a (length bs))) q false) e
      ∙ (marked_first m.held (a / 256) (last_page a (length bs)) first_page
      ∙ sym (or_right (holds m p) _ (touched p (omega arith) (omega arith)))))
      (λ (n : p ≡ a / 256 → ⊥).
      ⊎_elim
      (λ (e : p ≡ last_page a (length bs)).
      ap (λ q. get_or (marked m.held (a / 256) (last_page a (length bs))) q false) e
      ∙ (marked_last m.held (a / 256) (last_page a (length bs)) last_page_lem
      ∙ sym (or_right (holds m p) _ (touched p (omega arith) (omega arith)))))
      (λ (k : p ≡ last_page a (length bs) → ⊥).
      marked_other m.held (a / 256) (last_page a (length bs)) p n k ∙ sym (or_same (holds m p) _ (untouched p n k)))
      (cases_eq p (last_page a (length bs))))
      (cases_eq p (a / 256))

  pub stored_count : held_pages (stored m a bs) ≡ held_pages m + lacking m (a / 256) (last_page a (length bs))
  stored_count = count_marked m.held (a / 256) (last_page a (length bs)) first_page last_page_lem

  pub stored_valid : Octets bs → Valid (stored m a bs)
  stored_valid o =
      record {
        fit = v.fit;
        all_bytes = length_laid bs m.bytes a ∙ v.all_bytes;
        octets = laid_octets bs m.bytes a v.octets o;
        all_pages = ap (λ n. n * 256) (length_marked m.held (a / 256) (last_page a (length bs))) ∙ v.all_pages;
        blank = λ k bare.
            let parted = or_parts (holds m (k / 256)) _ (sym (stored_holds (k / 256)) ∙ bare) in
            ⊎_elim
            (λ (on : (a ≤ k) × (k < a + length bs)).
            absurd (true≢false (sym (touched (k / 256) (omega arith) (omega arith)) ∙ parted.1)))
            (λ (off : Off k a (length bs)). laid_off bs m.bytes a k off ∙ v.blank k parted.0)
            (on_or_off a (length bs) k);
      }
