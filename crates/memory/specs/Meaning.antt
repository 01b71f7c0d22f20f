-- What a memory means.
use Rattle.std.specs.Prelude.{◌≡◌, ℕ, ◌*◌, ◌/◌, ◌%◌, ◌<◌, ◌≤◌, Bool, false, ◌&&◌, List, length, replicate, ◌==◌, nat_le, slice_index, slice_index_or}

-- a size, as many bytes, which pages of 256 bytes are held, and how many pages are free
pub record Meaning : Type 0 where
  pub size : ℕ
  pub bytes : List ℕ
  pub held : List Bool
  pub free : ℕ

-- a size that a memory may have
abbrev pub Fit : ℕ → Type 0
Fit n = (256 ≤ n) × (n ≤ 1048576) × (n % 256 ≡ 0)

-- the same as a test
abbrev pub fits : ℕ → Bool
fits n = nat_le 256 n && (nat_le n 1048576 && n % 256 == 0)

-- whether page p is held
abbrev pub holds : Meaning → ℕ → Bool
holds m p = slice_index_or m.held p false

-- each number is a byte
abbrev pub Octets : List ℕ → Type 0
Octets xs = (k : ℕ) → slice_index xs k < 256

-- what every memory keeps: its size is fit, it has as many bytes, each of them below 256, a mark for each page, and zeros
-- where no page is held
pub record Valid (m : Meaning) : Type 0 where
  pub fit : Fit m.size
  pub all_bytes : length m.bytes ≡ m.size
  pub octets : Octets m.bytes
  pub all_pages : length m.held * 256 ≡ m.size
  pub blank : (k : ℕ) → holds m (k / 256) ≡ false → slice_index m.bytes k ≡ 0

-- n zeros, no page held, and k pages free
unfoldable pub blank_memory : ℕ → ℕ → Meaning
blank_memory n k = record { size = n; bytes = replicate n 0; held = replicate (n / 256) false; free = k }

-- what is made of an unfit size or number of frames: 256 bytes, no page held, none free
abbrev pub unfit_memory : Meaning
unfit_memory = blank_memory 256 0
