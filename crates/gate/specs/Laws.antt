-- What holds of marks and verdicts by themselves.
use Rattle.std.specs.Prelude.{◌≡◌, ℕ, ◌*◌, ◌/◌, ◌<◌, ◌≤◌, Bool, List, ◌++◌, length}
use Rattle.gate.specs.declared.entries.EntryRow.{EntryRow}
use Rattle.gate.specs.Bitmaps.{bitmap, bit_at}
use Rattle.gate.specs.Verdicts.{verdict_of}

-- bit i of a bitmap of f is f i, whatever bytes follow
abbrev pub BitByBit : Type 0
BitByBit = (f : ℕ → Bool) (k i : ℕ) (rest : List ℕ) → i < 8 * k → bit_at (bitmap f k ++ rest) i ≡ f i

-- buffers that suffice play no part in the verdict
abbrev pub RoomAside : Type 0
RoomAside =
    (image : List ℕ) (row : EntryRow) (s t : ℕ) → length image / 8 ≤ s → length image / 8 ≤ t → verdict_of image row s t ≡ verdict_of image row (length image / 8) (length image / 8)
