-- An empty text under a width is that many spaces.
use Rattle.std.proofs.Common.{◌≡◌, ℕ, zero, suc, ◌-◌, ◌^◌, List, [], ◌∷◌, replicate, refl, ap, arith}
use native.Mathlib.Nat.{sub-zero}
use lib.Utf8.{encode}
use Rattle.std.specs.List.{repeat}
use Rattle.std.proofs.lemmas.Bool.{ne_eqb}
use Rattle.std.specs.Fmt.{padded, take_chars, char_count, styled_text, format_spec}

spaces : (n : ℕ) → repeat {A = ℕ} n (32 ∷ []) ≡ replicate n 32
spaces zero = refl
spaces (suc n) = ap (λ (t : List ℕ). 32 ∷ t) (spaces n)

pub wide : (n : ℕ) → styled_text (format_spec 32 0 0 n (2 ^ 64 - 1)) [] ≡ replicate n 32
unfolding padded take_chars char_count encode
wide zero = refl
wide (suc n) = rw (ne_eqb (suc n) 0 (λ z. omega (arith, z))) (simp sub-zero (spaces (suc n)))
