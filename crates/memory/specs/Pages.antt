-- A page table over frames of 256 bytes: what it is made of, what it means and what it keeps.
use Rattle.std.specs.Prelude.{◌≡◌, ℕ, ◌-◌, ◌/◌, ◌%◌, ◌<◌, Bool, cond, ◌&&◌, List, [], map, length, take, is_some, Some, None, Ok, Err, count_by, Option, Result, nat_le, slice_index, slice_index_or}
use Rattle.std.specs.List.{range_with_len}
use Rattle.memory.specs.Meaning.{Meaning, Octets, fits, blank_memory, unfit_memory}
use Rattle.memory.specs.declared.faults.Unfit.{Unfit}
use Rattle.memory.specs.declared.faults.Unfit.TheVariants.{Size, Frames}

-- how many frames a memory may have
abbrev pub frames_fit : ℕ → Bool
frames_fit k = nat_le 1 k && nat_le k 4096

-- whether a size and a number of frames will do
abbrev pub paged_check : ℕ → ℕ → Result (Unit {0}) Unfit
paged_check n k = cond (fits n) (cond (frames_fit k) (Ok tt) (Err Frames)) (Err Size)

-- what is made of a size and k frames
abbrev pub paged_made : ℕ → ℕ → Meaning
paged_made n k = cond (fits n && frames_fit k) (blank_memory n k) unfit_memory

-- the byte at o of a page, by the frame that it has or has not
abbrev pub cell : List (List ℕ) → Option ℕ → ℕ → ℕ
cell frames None o = 0
cell frames (Some f) o = slice_index (slice_index_or frames f []) o

-- the byte at an address
abbrev pub byte_at : List (Option ℕ) → List (List ℕ) → ℕ → ℕ
byte_at table frames a = cell frames (slice_index_or table (a / 256) None) (a % 256)

-- n bytes over a table and frames, of which some are used
abbrev pub paged_meaning : ℕ → List (Option ℕ) → List (List ℕ) → ℕ → Meaning
paged_meaning n table frames used = record {
  size = n;
  bytes = map (byte_at table frames) (range_with_len 0 n);
  held = map is_some (take (n / 256) table);
  free = length frames - used;
}

-- each page's frame is one of those in use
abbrev pub Mapped : List (Option ℕ) → ℕ → Type 0
Mapped table used = (p f : ℕ) → slice_index_or table p None ≡ Some f → f < used

-- whether two pages have one frame
abbrev pub Alias : Option ℕ → Option ℕ → Type 0
Alias None o = ⊥
Alias (Some f) None = ⊥
Alias (Some f) (Some g) = f ≡ g

-- no two pages share a frame
abbrev pub Apart : List (Option ℕ) → Type 0
Apart table = (p q : ℕ) → Alias (slice_index_or table p None) (slice_index_or table q None) → p ≡ q

-- how many pages have a frame
abbrev pub framed : List (Option ℕ) → ℕ
framed table = count_by is_some table

-- each frame in use has 256 numbers, each a byte
abbrev pub Sound : List (List ℕ) → ℕ → Type 0
Sound frames used = (f : ℕ) → f < used → (length (slice_index_or frames f []) ≡ 256) × Octets (slice_index_or frames f [])
