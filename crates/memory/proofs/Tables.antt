-- What a page table keeps when a page is given the next frame.
use Rattle.std.specs.Prelude.{◌≡◌, ℕ, zero, suc, ◌+◌, ◌<◌, cond, ◌≢◌, List, [], ◌∷◌, length, get_or, take, is_some, Some, None, Option, slice_index_or, slice_set, refl}
use Rattle.std.proofs.Common.{sym, ap, ◌∙◌, ⊎_elim, arith}
use Rattle.std.proofs.lemmas.List.{length-take, get_or-set_same, get_or-set_other, get_or-take}
use Rattle.std.proofs.lemmas.List.Sums.{sum_by-set}
use Rattle.std.proofs.lemmas.Bool.{cases_eq}
use Rattle.memory.specs.Meaning.{Octets}
use Rattle.memory.specs.Pages.{Mapped, Alias, Apart, Sound, framed}

pub take_set_at : {A : Type 0} (k : ℕ) (ts : List A) (p : ℕ) (x : A) → take k (slice_set ts p x) ≡ slice_set (take k ts) p x
take_set_at zero ts p x = refl
take_set_at (suc k) [] p x = refl
take_set_at (suc k) (t ∷ ts) zero x = refl
take_set_at (suc k) (t ∷ ts) (suc p) x = ap (λ l. t ∷ l) (take_set_at k ts p x)

fresh : (o : Option ℕ) (used : ℕ) → ((f : ℕ) → o ≡ Some f → f < used) → Alias (Some used) o → ⊥
fresh None used m e = e
fresh (Some g) used m e = let l : g < used = m g refl in omega arith

fresh_too : (o : Option ℕ) (used : ℕ) → ((f : ℕ) → o ≡ Some f → f < used) → Alias o (Some used) → ⊥
fresh_too None used m e = e
fresh_too (Some g) used m e = let l : g < used = m g refl in omega arith

-- page p has no frame, and gets the frame `used`
module _ (ts : List (Option ℕ)) (used p : ℕ) (h : p < length ts) (none : get_or ts p None ≡ None) where
  entry_here : (q : ℕ) → q ≡ p → slice_index_or (slice_set ts p (Some used)) q None ≡ Some used
  entry_here q s = rw s (get_or-set_same ts p (Some used) None h)

  entry_other : (q : ℕ) → q ≢ p → slice_index_or (slice_set ts p (Some used)) q None ≡ slice_index_or ts q None
  entry_other q ne = get_or-set_other ts p q (Some used) None ne

  pub mapped_hold : Mapped ts used → Mapped (slice_set ts p (Some used)) (used + 1)
  mapped_hold mapped q f e =
      ⊎_elim
      (λ (s : q ≡ p). let here = entry_here q s in let u : used ≡ f = cc in omega arith)
      (λ (ne : q ≡ p → ⊥). let l : f < used = mapped q f (sym (entry_other q ne) ∙ e) in omega arith)
      (cases_eq q p)

  pub apart_hold : Mapped ts used → Apart ts → Apart (slice_set ts p (Some used))
  apart_hold mapped apart q r e =
      ⊎_elim
      (λ (s : q ≡ p). ⊎_elim
      (λ (t : r ≡ p). s ∙ sym t)
      (λ (ne : r ≡ p → ⊥). absurd (fresh (slice_index_or ts r None) used (mapped r) (rw (entry_here q s, entry_other r ne) at e)))
      (cases_eq r p))
      (λ (nq : q ≡ p → ⊥). ⊎_elim
      (λ (t : r ≡ p). absurd (fresh_too (slice_index_or ts q None) used (mapped q) (rw (entry_other q nq, entry_here r t) at e)))
      (λ (nr : r ≡ p → ⊥). apart q r (rw (entry_other q nq, entry_other r nr) at e))
      (cases_eq r p))
      (cases_eq q p)

  pub counted_hold : (k : ℕ) → p < k → framed (take k (slice_set ts p (Some used))) ≡ framed (take k ts) + 1
  counted_hold k l =
      let one = sum_by-set (λ o. cond (is_some o) 1 0) (take k ts) p (Some used) None (omega (arith, length-take k ts)) in
      let zip : ◌≡◌ {A = ℕ} (cond (is_some (slice_index_or (take k ts) p None)) 1 0) 0 = ap (λ o. cond {A = ℕ} (is_some o) 1 0) (get_or-take k ts p None l ∙ none) in
      ap framed (take_set_at k ts p (Some used)) ∙ omega arith

-- frame f is exchanged for bytes
module _ (xs : List (List ℕ)) (ys : List ℕ) (whole : length ys ≡ 256) (octets : Octets ys) where
  pub sound_hold : (used : ℕ) → used < length xs → Sound xs used → Sound (slice_set xs used ys) (used + 1)
  sound_hold used l sound g h =
      ⊎_elim
      (λ (e : g ≡ used). rw (e, get_or-set_same xs used ys [] l) (whole, octets))
      (λ (ne : g ≡ used → ⊥). rw (get_or-set_other xs used g ys [] ne) (sound g (omega arith)))
      (cases_eq g used)
