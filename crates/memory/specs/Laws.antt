-- What holds of reads, puts, writes and copies, whatever keeps the memory.
use Rattle.std.specs.Prelude.{◌≡◌, ℕ, ◌+◌, ◌-◌, ◌*◌, ◌/◌, ◌^◌, ◌<◌, ◌≤◌, Bool, true, cond, ◌&&◌, ◌||◌, ◌⊎◌, List, length, take, drop, Ok, Err, count_by, Result, ◌==◌, nat_le, nat_lt, slice_index}
use Rattle.memory.specs.Access.{Outcome, read_of, read_long_of, put_of, last_page}
use Rattle.memory.specs.Data.{parts}
use Rattle.memory.specs.Faults.{fault_address}
use Rattle.memory.specs.Meaning.{Meaning, Valid, Octets, holds}
use Rattle.memory.specs.Ranges.{write_of, copy_of}
use Rattle.memory.specs.declared.data.Datum.{Datum}
use Rattle.memory.specs.declared.data.Datum.TheVariants.{Byte, Long}
use Rattle.memory.specs.declared.faults.MemoryFault.{MemoryFault}
use Rattle.memory.specs.declared.faults.MemoryFault.TheVariants.{Outside}

-- whether x is one of the k addresses from a on
abbrev pub within : ℕ → ℕ → ℕ → Bool
within a k x = nat_le a x && nat_lt x (a + k)

-- whether the k bytes from a on touch page p
abbrev pub touches : ℕ → ℕ → ℕ → Bool
touches a k p = nat_le (a / 256) p && nat_le p (last_page a k)

-- how many pages are held
abbrev pub held_pages : Meaning → ℕ
held_pages m = count_by (λ h. h) m.held

-- a put of d at a is granted, and leaves n
abbrev pub Granted : Meaning → ℕ → Datum → Meaning → Type 0
Granted m a d n = ◌≡◌ {A = Outcome} (put_of m a (parts d)) (Ok tt, n)

-- d at a and e at b have no byte in common
abbrev pub Disjoint : ℕ → Datum → ℕ → Datum → Type 0
Disjoint a d b e = (a + length (parts d) ≤ b) ⊎ (b + length (parts e) ≤ a)

-- after a granted put, a read gives the datum's byte where one was put, and elsewhere what it gave before
abbrev pub ReadAfterPut : Type 0
ReadAfterPut =
    (m n : Meaning) (a x : ℕ) (d : Datum) → Valid m → Granted m a d n
    → read_of n x ≡ cond (within a (length (parts d)) x) (Ok (slice_index (parts d) (x - a))) (read_of m x)

-- a granted read of four bytes is the four bytes that single reads give, lowest first
abbrev pub LongIsFour : Type 0
LongIsFour =
    (m : Meaning) (a w : ℕ) → read_long_of m a ≡ Ok w
    → (b : ℕ → ℕ) × ((i : ℕ) → i < 4 → read_of m (a + i) ≡ Ok (b i)) × (w ≡ b 0 + b 1 * 256 + b 2 * 65536 + b 3 * 16777216)

-- after a granted put of four bytes, the four bytes read there are the number
abbrev pub LongAfterPut : Type 0
LongAfterPut = (m n : Meaning) (a w : ℕ) → Valid m → w < 2 ^ 32 → Granted m a (Long w) n → read_long_of n a ≡ Ok w

-- whatever a put answers, the size is the same
abbrev pub SizeStays : Type 0
SizeStays = (m : Meaning) (a : ℕ) (d : Datum) → (put_of m a (parts d)).1.size ≡ m.size

-- whatever a put answers, a held page stays held
abbrev pub PagesStay : Type 0
PagesStay = (m : Meaning) (a p : ℕ) (d : Datum) → holds m p ≡ true → holds (put_of m a (parts d)).1 p ≡ true

-- after a granted put, the pages held are those that were and those that it touched
abbrev pub TouchedHeld : Type 0
TouchedHeld =
    (m n : Meaning) (a p : ℕ) (d : Datum) → Valid m → Granted m a d n → holds n p ≡ (holds m p || touches a (length (parts d)) p)

-- whatever a put answers, no page is made and none is lost: held and free together are as many as before
abbrev pub PagesKept : Type 0
PagesKept = (m : Meaning) (a : ℕ) (d : Datum) → Valid m → held_pages (put_of m a (parts d)).1 + (put_of m a (parts d)).1.free ≡ held_pages m + m.free

-- where every page that it touches is held, a put is granted
abbrev pub HeldGranted : Type 0
HeldGranted =
    (m : Meaning) (a : ℕ) (d : Datum) → Valid m → ((p : ℕ) → touches a (length (parts d)) p ≡ true → holds m p ≡ true)
    → (put_of m a (parts d)).0 ≡ Ok tt

-- a put that is refused alters nothing
abbrev pub RefusedSame : Type 0
RefusedSame = (m n : Meaning) (a : ℕ) (d : Datum) (e : MemoryFault) → put_of m a (parts d) ≡ (Err e, n) → n ≡ m

-- two granted puts that have no byte in common may change places: both are granted again, and the memory after them is the same
abbrev pub PutsCommute : Type 0
PutsCommute =
    (m m₁ m₂ : Meaning) (a b : ℕ) (d e : Datum) → Valid m → Disjoint a d b e → Granted m a d m₁ → Granted m₁ b e m₂
    → (n₁ : Meaning) × Granted m b e n₁ × Granted n₁ a d m₂

-- whatever a put of bytes answers, the memory after it is valid
abbrev pub PutValid : Type 0
PutValid = (m : Meaning) (a : ℕ) (d : Datum) → Valid m → Octets (parts d) → Valid (put_of m a (parts d)).1

-- a write of bytes from a on is granted, and leaves n
abbrev pub Written : Meaning → ℕ → List ℕ → Meaning → Type 0
Written m a bs n = ◌≡◌ {A = Outcome} (write_of m a bs) (Ok tt, n)

-- after a granted write, a read gives the byte written there, and elsewhere what it gave before
abbrev pub ReadAfterWrite : Type 0
ReadAfterWrite =
    (m n : Meaning) (a x : ℕ) (bs : List ℕ) → Valid m → Written m a bs n
    → read_of n x ≡ cond (within a (length bs) x) (Ok (slice_index bs (x - a))) (read_of m x)

-- a granted write of one byte or more lies in the memory
abbrev pub WriteInside : Type 0
WriteInside = (m n : Meaning) (a : ℕ) (bs : List ℕ) → 0 < length bs → Written m a bs n → a + length bs ≤ m.size

-- after a granted write, the page of each of its addresses is held
abbrev pub WriteHolds : Type 0
WriteHolds =
    (m n : Meaning) (a x : ℕ) (bs : List ℕ) → Valid m → Written m a bs n → within a (length bs) x ≡ true → holds n (x / 256) ≡ true

-- whatever a write answers, the size is the same
abbrev pub WriteSize : Type 0
WriteSize = (m : Meaning) (a : ℕ) (bs : List ℕ) → (write_of m a bs).1.size ≡ m.size

-- whatever a write answers, a held page stays held
abbrev pub WritePagesStay : Type 0
WritePagesStay = (m : Meaning) (a p : ℕ) (bs : List ℕ) → holds m p ≡ true → holds (write_of m a bs).1 p ≡ true

-- whatever a write answers, no page is made and none is lost: held and free together are as many as before
abbrev pub WritePagesKept : Type 0
WritePagesKept = (m : Meaning) (a : ℕ) (bs : List ℕ) → Valid m → held_pages (write_of m a bs).1 + (write_of m a bs).1.free ≡ held_pages m + m.free

-- whatever a write of bytes answers, the memory after it is valid
abbrev pub WriteValid : Type 0
WriteValid = (m : Meaning) (a : ℕ) (bs : List ℕ) → Valid m → Octets bs → Valid (write_of m a bs).1

-- a refused write has written the bytes before the address that its refusal names, and no other: the next byte's put is what is refused
abbrev pub WrittenBefore : Type 0
WrittenBefore =
    (m n : Meaning) (a x : ℕ) (bs : List ℕ) (e : MemoryFault) → fault_address e ≡ x → write_of m a bs ≡ (Err e, n)
    → (a ≤ x) × (x < a + length bs) × Written m a (take (x - a) bs) n × (put_of n x (parts (Byte (slice_index bs (x - a)))) ≡ (Err e, n))

-- a copy is granted if the buffer is empty or lies in the memory; else the first address outside is named
abbrev pub CopyAnswer : Type 0
CopyAnswer =
    (m : Meaning) (a : ℕ) (buffer : List ℕ) → Valid m
    → (copy_of m a buffer).0 ≡ cond (length buffer == 0 || nat_le (a + length buffer) m.size) (Ok tt) (Err (Outside (cond (nat_lt a m.size) m.size a)))

-- after a granted copy, the buffer is the memory's bytes from a on
abbrev pub CopyExact : Type 0
CopyExact =
    (m : Meaning) (a : ℕ) (buffer after : List ℕ) → ◌≡◌ {A = Result (Unit {0}) MemoryFault × List ℕ} (copy_of m a buffer) (Ok tt, after)
    → after ≡ take (length buffer) (drop a m.bytes)

-- whatever a copy answers, each byte of the buffer after it is the memory's if its address is inside, and else as it was
abbrev pub CopyEach : Type 0
CopyEach =
    (m : Meaning) (a i : ℕ) (buffer : List ℕ) → Valid m → i < length buffer
    → slice_index (copy_of m a buffer).1 i ≡ cond (nat_lt (a + i) m.size) (slice_index m.bytes (a + i)) (slice_index buffer i)

-- after a granted write, a copy from there into a buffer as long is granted, and brings the bytes that were written
abbrev pub CopyAfterWrite : Type 0
CopyAfterWrite =
    (m n : Meaning) (a : ℕ) (bs buffer : List ℕ) → Valid m → length buffer ≡ length bs → Written m a bs n → copy_of n a buffer ≡ (Ok tt, bs)
