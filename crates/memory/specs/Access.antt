-- What a read answers, and what a put answers and leaves.
use Rattle.std.specs.Prelude.{ℕ, ◌+◌, ◌-◌, ◌/◌, true, cond, List, [], ◌∷◌, length, Ok, Err, Result, ◌==◌, nat_lt, slice_index, slice_set}
use Rattle.memory.specs.Data.{long_at}
use Rattle.memory.specs.Meaning.{Meaning, holds}
use Rattle.memory.specs.declared.faults.MemoryFault.{MemoryFault}
use Rattle.memory.specs.declared.faults.MemoryFault.TheVariants.{Outside, NoFreePage}

-- an answer to a put or a write, and the memory after it
abbrev pub Outcome : Type 0
Outcome = Result (Unit {0}) MemoryFault × Meaning

-- the byte at a, or 11
abbrev pub read_of : Meaning → ℕ → Result ℕ MemoryFault
read_of m a = cond (nat_lt a m.size) (Ok (slice_index m.bytes a)) (Err (Outside a))

-- the four bytes from a on as one number, lowest first, or 11
abbrev pub read_long_of : Meaning → ℕ → Result ℕ MemoryFault
read_long_of m a = cond (nat_lt m.size (a + 4)) (Err (Outside a)) (Ok (long_at m.bytes a))

-- the last page that k bytes from a on touch; the first is a / 256, and up to four bytes touch no third
abbrev pub last_page : ℕ → ℕ → ℕ
last_page a k = (a + k - 1) / 256

-- 1 for a page that is not held
abbrev pub lacks : Meaning → ℕ → ℕ
lacks m p = cond (holds m p) 0 1

-- how many of the pages p and q, which may be one, are not held
abbrev pub lacking : Meaning → ℕ → ℕ → ℕ
lacking m p q = lacks m p + cond (p == q) 0 (lacks m q)

-- xs with bs written over it from a on
abbrev pub laid : List ℕ → ℕ → List ℕ → List ℕ
laid xs a [] = xs
laid xs a (b ∷ bs) = laid (slice_set xs a b) (a + 1) bs

-- after a granted put of a datum's bytes: they stand there, and the pages that they touch are held
abbrev pub stored : Meaning → ℕ → List ℕ → Meaning
stored m a bs = record {
  size = m.size;
  bytes = laid m.bytes a bs;
  held = slice_set (slice_set m.held (a / 256) true) (last_page a (length bs)) true;
  free = m.free - lacking m (a / 256) (last_page a (length bs));
}

-- a put at a of bs, which are the bytes of a datum: 11 comes before 12, and a refusal alters nothing
unfoldable pub put_of : Meaning → ℕ → List ℕ → Outcome
put_of m a bs =
    cond (nat_lt m.size (a + length bs)) (Err (Outside a), m)
    (cond (nat_lt m.free (lacking m (a / 256) (last_page a (length bs)))) (Err (NoFreePage a), m) (Ok tt, stored m a bs))
