-- The first answer of a function.
use Rattle.std.proofs.Common.{◌≡◌, ℕ, zero, suc, ◌+◌, ◌<◌, Some, None, Option, sym, refl, ap, ◌∙◌, arith}
use Rattle.std.specs.Option.{option_or}
use Rattle.gate.specs.Verdicts.{first}

pub first_ext : {A : Type 0} (n : ℕ) (f g : ℕ → Option A) → ((i : ℕ) → i < n → f i ≡ g i) → first f n ≡ first g n
unfolding first
first_ext zero f g h = refl
first_ext (suc n) f g h =
    let t : first (λ i. f (suc i)) n ≡ first (λ i. g (suc i)) n = first_ext n (λ i. f (suc i)) (λ i. g (suc i)) (λ i k. h (suc i) (omega arith)) in
    let z : f 0 ≡ g 0 = h 0 (omega arith) in
    rw (t, z) refl

or_assoc : {A : Type 0} (a b c : Option A) → option_or (option_or a b) c ≡ option_or a (option_or b c)
or_assoc None b c = refl
or_assoc (Some x) b c = refl

-- the first n addresses, and then the others
pub first_split : {A : Type 0} (n m : ℕ) (f : ℕ → Option A) → first f (n + m) ≡ option_or (first f n) (first (λ i. f (n + i)) m)
unfolding first
first_split zero m f =
    let z : zero + m ≡ m = omega arith in
    rw z (first_ext m f (λ i. f (zero + i)) (λ i _. ap f (omega arith)))
first_split (suc n) m f =
    let z : suc n + m ≡ suc (n + m) = omega arith in
    let t = first_split n m (λ i. f (suc i)) in
    let u : first (λ i. f (suc (n + i))) m ≡ first (λ i. f (suc n + i)) m = first_ext m _ _ (λ i _. ap f (omega arith)) in
    rw z (ap (option_or (f 0)) (t ∙ ap (option_or (first (λ i. f (suc i)) n)) u) ∙ sym (or_assoc (f 0) (first (λ i. f (suc i)) n) (first (λ i. f (suc n + i)) m)))
