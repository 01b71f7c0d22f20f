-- Code that is taken as an image.
use Rattle.std.specs.Prelude.{◌≡◌, ℕ, true, false, List, length, Ok, Err, Result}
use Rattle.gate.specs.declared.refusals.Refusal.{Refusal}
use Rattle.gate.specs.declared.refusals.Refusal.TheVariants.{Length}
use Rattle.gate.specs.Verdicts.{fits_length}

-- code of a fit length is taken as it is, and any other is refused with 1
abbrev pub AsImage : {I : Type 0} → List ℕ → (I → List ℕ) → Result I Refusal → Type 0
AsImage code bytes (Ok i) = (fits_length (length code) ≡ true) × (bytes i ≡ code)
AsImage code bytes (Err r) = (fits_length (length code) ≡ false) × (r ≡ Length)
