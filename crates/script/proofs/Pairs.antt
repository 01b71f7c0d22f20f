-- One turn of reading pairs of digits.
use Rattle.std.proofs.Common.{◌≡◌, ℕ, List, [], ◌∷◌, ◌++◌, length, get_or, Ok, sym, ap, ◌∙◌, arith}
use Rattle.script.specs.Groups.{byte_of, pairs_of}
use Rattle.script.proofs.Outcomes.{goes_on}

pub one_byte : (done more rest pair last : List ℕ) (b : ℕ) → length pair ≡ 2 → rest ≡ pair ++ last → byte_of (get_or pair 0 0) (get_or pair 1 0) ≡ Ok b → more ≡ done ++ (b ∷ []) →
    pairs_of more last ≡ pairs_of done rest
one_byte done more rest [] last b n e r m = absurd (omega (arith, n))
one_byte done more rest (h ∷ []) last b n e r m = absurd (omega (arith, n))
one_byte done more rest (h ∷ (l ∷ [])) last b n e r m =
    ap (λ (d : List ℕ). pairs_of d last) m ∙ sym (ap (pairs_of done) e ∙ goes_on (byte_of h l) _ b r)
one_byte done more rest (h ∷ (l ∷ (x ∷ xs))) last b n e r m = absurd (omega (arith, n))
