-- So many bytes, if there are as many; and the states that only count bytes.
use Rattle.std.proofs.Common.{◌≡◌, ℕ, zero, suc, ◌+◌, ◌<◌, Bool, true, false, cond, leb, List, [], ◌∷◌, length, Some, None, Option, sym, refl, ap, ◌∙◌, arith, le-leb}
use borrow.Author.Tests.{lt-leb}
use Rattle.std.specs.Option.{option_map}
use Rattle.x86.proofs.Complete.{chosen, passed_over}
use Rattle.x86.proofs.Shift.{same_test}
use Rattle.automata.specs.Runs.{reached, run}
use Rattle.automata.proofs.Walked.{goes_on}

-- so many bytes, if there are as many
abbrev pub fits : List ℕ → ℕ → Option ℕ
fits bs n = cond (leb n (length bs)) (Some n) None

less : (a b : ℕ) → leb a b ≡ leb (suc a) (suc b)
less a b = same_test a b (suc a) (suc b) (leb a b) (leb (suc a) (suc b)) refl refl (λ h. omega arith) (λ h. omega arith)

counted : (t : Bool) (n : ℕ) → option_map {U = ℕ} suc (cond t (Some n) None) ≡ cond t (Some (suc n)) None
counted true n = refl
counted false n = refl

pub fits_suc : (b : ℕ) (bs : List ℕ) (n : ℕ) → option_map suc (fits bs n) ≡ fits (b ∷ bs) (suc n)
fits_suc b bs n = counted (leb n (length bs)) n ∙ ap (λ (t : Bool). cond t (Some (suc n)) None) (less n (length bs))

pub fits_none : (n : ℕ) → 0 < n → None ≡ fits [] n
fits_none n h = sym (passed_over (leb n 0) _ _ _ (lt-leb n 0 h) refl)

pub fits_one : (b : ℕ) (bs : List ℕ) → Some 1 ≡ fits (b ∷ bs) 1
fits_one b bs = sym (chosen (leb 1 (suc (length bs))) _ _ _ (le-leb 1 (suc (length bs)) (omega arith)) refl)

pub fits_as : (bs : List ℕ) (m n : ℕ) → m ≡ n → fits bs m ≡ fits bs n
fits_as bs m n e = ap (fits bs) e

-- where a byte of any value leads to from the state 3 + n
abbrev pub down : ℕ → ℕ
down zero = 1
down (suc n) = 3 + n

-- the state 3 + n reads n bytes of any value and one more
module _ (rule : ℕ → ℕ → ℕ) (limit : ℕ) (counts : (n b : ℕ) → n < limit → rule (3 + n) b ≡ down n) where
  pub counts_down : (n : ℕ) → n < limit → (bs : List ℕ) → run rule (3 + n) bs ≡ fits bs (suc n)
  counts_down n h [] = fits_none (suc n) (omega arith)
  counts_down zero h (b ∷ bs) = ap (λ (t : ℕ). reached t (run rule t bs)) (counts zero b h) ∙ fits_one b bs
  counts_down (suc n) h (b ∷ bs) =
      ap (λ (t : ℕ). reached t (run rule t bs)) (counts (suc n) b h)
      ∙ goes_on (3 + n) (run rule (3 + n) bs) (omega arith) ∙ ap (option_map suc) (counts_down n (omega arith) bs) ∙ fits_suc b bs (suc n)
