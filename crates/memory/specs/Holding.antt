-- What it does to a memory's meaning to hold a page, and to write bytes into pages that are held.
use Rattle.std.specs.Prelude.{◌≡◌, ℕ, ◌+◌, ◌-◌, ◌<◌, ◌≤◌, true, List, Some, None, Option, slice_index_or, slice_set}
use Rattle.memory.specs.Access.{lacks, laid}
use Rattle.memory.specs.Meaning.{Meaning}

-- a memory after page p has come to be held
abbrev pub with_page : Meaning → ℕ → Meaning
with_page m p = record { size = m.size; bytes = m.bytes; held = slice_set m.held p true; free = m.free - lacks m p }

-- a memory after the bytes bs were written from a on
abbrev pub with_bytes : Meaning → ℕ → List ℕ → Meaning
with_bytes m a bs = record { size = m.size; bytes = laid m.bytes a bs; held = m.held; free = m.free }

-- after page p of m was asked to be held, which made n of it: its frame by the table, or none where none was free
abbrev pub PageHeld : Meaning → ℕ → Meaning → List (Option ℕ) → Option ℕ → Type 0
PageHeld m p n table None = (n ≡ m) × (m.free < lacks m p)
PageHeld m p n table (Some f) = (n ≡ with_page m p) × (lacks m p ≤ m.free) × (slice_index_or table p None ≡ Some f)

-- after page p of m and the next were asked to be held, which made n of it
abbrev pub BothHeld : Meaning → ℕ → Meaning → Option (Unit {0}) → Type 0
BothHeld m p n None = (n ≡ m) × (m.free < lacks m p + lacks m (p + 1))
BothHeld m p n (Some u) = (n ≡ with_page (with_page m p) (p + 1)) × (lacks m p + lacks m (p + 1) ≤ m.free)
