-- The gate and the policy.
use Rattle.std.specs.Prelude.{◌≡◌, ℕ, ◌/◌, ◌≤◌, Bool, true, List, length}
use Rattle.x86.specs.Octets.{Octets}
use Rattle.gate.specs.declared.entries.EntryRow.{EntryRow}
use Rattle.gate.specs.Entries.{row_fits}
use Rattle.gate.specs.Policy.{Meets}
use Rattle.gate.specs.Verdicts.{fits_length, passes}

-- past the checks of length, room and row, an image passes exactly when it meets the policy
abbrev pub ExactlyPolicy : List ℕ → EntryRow → ℕ → ℕ → Bool → Type 0
ExactlyPolicy image row s t passed =
    fits_length (length image) ≡ true → length image / 8 ≤ s → length image / 8 ≤ t → row_fits row (length image) ≡ true →
    (passed ≡ true → Meets image row) × (Meets image row → passed ≡ true)

-- what a pass says of its image means that it meets the policy
abbrev pub PassesMeet : Type 0
PassesMeet = (image : List ℕ) (row : EntryRow) → Octets image 0 (length image) → passes image row ≡ true → Meets image row
