-- Marks: a bit for each address, eight to a byte, the lowest bit first.
use Rattle.std.specs.Prelude.{ℕ, zero, suc, ◌+◌, ◌*◌, ◌/◌, ◌%◌, ◌^◌, Bool, cond, List, [], ◌∷◌, ◌==◌, bit_or, slice_index, slice_set}

-- the number whose n lowest bits are f 0, f 1 and so on
unfoldable pub bits : (ℕ → Bool) → ℕ → ℕ
bits f zero = 0
bits f (suc n) = bits (λ i. f (suc i)) n * 2 + cond (f 0) 1 0

-- k bytes: bit i % 8 of byte i / 8 is f i
unfoldable pub bitmap : (ℕ → Bool) → ℕ → List ℕ
bitmap f zero = []
bitmap f (suc k) = bits f 8 ∷ bitmap (λ i. f (8 + i)) k

-- the buffer with bit i set
abbrev pub marked : List ℕ → ℕ → List ℕ
marked buf i = slice_set buf (i / 8) (bit_or (slice_index buf (i / 8)) (2 ^ (i % 8)))

-- bit i of the buffer
abbrev pub bit_at : List ℕ → ℕ → Bool
bit_at buf i = (slice_index buf (i / 8) / 2 ^ (i % 8)) % 2 == 1
