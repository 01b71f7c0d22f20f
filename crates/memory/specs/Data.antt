-- The bytes of a datum.
use Rattle.std.specs.Prelude.{ℕ, ◌+◌, ◌*◌, ◌/◌, ◌%◌, List, [], ◌∷◌, slice_index}
use Rattle.memory.specs.declared.data.Datum.{Datum}
use Rattle.memory.specs.declared.data.Datum.TheVariants.{Byte, Long}

-- one byte, or four, lowest first
abbrev pub parts : Datum → List ℕ
parts (Byte b) = b ∷ []
parts (Long n) = (n % 256) ∷ (n / 256 % 256) ∷ (n / 65536 % 256) ∷ (n / 16777216 % 256) ∷ []

-- the number whose four bytes stand at a, lowest first
abbrev pub long_at : List ℕ → ℕ → ℕ
long_at xs a = slice_index xs a + slice_index xs (a + 1) * 256 + slice_index xs (a + 2) * 65536 + slice_index xs (a + 3) * 16777216
