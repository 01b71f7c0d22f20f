-- The verdict on an image, and what it leaves in the marks buffers.
use Rattle.std.specs.Prelude.{ℕ, zero, suc, ◌/◌, ◌%◌, Bool, cond, not, ◌&&◌, List, ◌++◌, length, drop, replicate, is_some, Some, None, Ok, Err, Option, Result, ◌==◌, nat_le}
use Rattle.std.specs.Option.{option_or}
use Rattle.gate.specs.declared.entries.EntryRow.{EntryRow}
use Rattle.gate.specs.declared.refusals.Refusal.{Refusal}
use Rattle.gate.specs.declared.refusals.Refusal.TheVariants.{Length, Marks, Row, NoMatch, FarTarget, Unaligned, MidTarget}
use Rattle.gate.specs.Bitmaps.{bitmap}
use Rattle.gate.specs.Entries.{row_fits}
use Rattle.gate.specs.Walks.{is_start, is_target, stopped}

-- an image has some bytes, at most 65,536, and a multiple of 32
abbrev pub fits_length : ℕ → Bool
fits_length n = not (n == 0) && (nat_le n 65536 && n % 32 == 0)

-- what is wrong at the address i: a multiple of 32 or a target that is no start
abbrev pub wrong_at : (ℕ → Bool) → (ℕ → Bool) → ℕ → Option Refusal
wrong_at start target i =
    cond (start i) None (cond (i % 32 == 0) (Some (Unaligned i)) (cond (target i) (Some (MidTarget i)) None))

-- the first answer of f, from 0 on and below n
unfoldable pub first : {A : Type 0} → (ℕ → Option A) → ℕ → Option A
first f zero = None
first f (suc n) = option_or (f 0) (first (λ i. f (suc i)) n)

-- the lowest address below n where something is wrong, 6 or 7
abbrev pub misplaced : (ℕ → Bool) → (ℕ → Bool) → ℕ → Option Refusal
misplaced start target n = first (wrong_at start target) n

-- what the walk refuses, and else what the marks show: 4 to 7
abbrev pub found : List ℕ → EntryRow → Option Refusal
found image row = option_or (stopped image row) (misplaced (is_start image) (is_target image) (length image))

-- a refusal unless a condition is met
abbrev pub unless : Bool → Refusal → Option Refusal
unless met r = cond met None (Some r)

-- the verdict on an image, with marks buffers of s and t bytes: the first check that refuses
abbrev pub verdict_of : List ℕ → EntryRow → ℕ → ℕ → Option Refusal
verdict_of image row s t =
    option_or (unless (fits_length (length image)) Length) (
    option_or (unless (nat_le (length image / 8) s && nat_le (length image / 8) t) Marks) (
    option_or (unless (row_fits row (length image)) Row) (found image row)))

-- whether an image passes, given buffers that suffice
abbrev pub passes : List ℕ → EntryRow → Bool
passes image row = not (is_some (verdict_of image row (length image / 8) (length image / 8)))

-- a verdict as a result
abbrev pub answer : Option Refusal → Result (Unit {0}) Refusal
answer None = Ok tt
answer (Some r) = Err r

-- k bytes without a mark, and the rest as it was
abbrev pub unmarked : ℕ → List ℕ → List ℕ
unmarked k old = replicate k 0 ++ drop k old

-- k bytes with the marks of f, and the rest as it was
abbrev pub marks_of : (ℕ → Bool) → ℕ → List ℕ → List ℕ
marks_of f k old = bitmap f k ++ drop k old

-- what a walk leaves of a buffer of k bytes: the marks of f, and none if it is refused
abbrev pub shown_after : Option Refusal → (ℕ → Bool) → ℕ → List ℕ
shown_after None f k = bitmap f k
shown_after (Some r) f k = replicate k 0

-- what a refusal leaves of a buffer: 1 to 3 all as it was, 4 to 7 no marks
abbrev pub left_by : Refusal → ℕ → List ℕ → List ℕ
left_by Length k old = old
left_by Marks k old = old
left_by Row k old = old
left_by (NoMatch a) k old = unmarked k old
left_by (FarTarget a) k old = unmarked k old
left_by (Unaligned a) k old = unmarked k old
left_by (MidTarget a) k old = unmarked k old

-- what a verdict leaves of a buffer: the marks of f if the image passes
abbrev pub marks_after : Option Refusal → (ℕ → Bool) → ℕ → List ℕ → List ℕ
marks_after None f k old = marks_of f k old
marks_after (Some r) f k old = left_by r k old

-- the first marks buffer after the verdict
abbrev pub starts_after : List ℕ → EntryRow → List ℕ → List ℕ → List ℕ
starts_after image row starts targets =
    marks_after (verdict_of image row (length starts) (length targets)) (is_start image) (length image / 8) starts

-- the second marks buffer after the verdict
abbrev pub targets_after : List ℕ → EntryRow → List ℕ → List ℕ → List ℕ
targets_after image row starts targets =
    marks_after (verdict_of image row (length starts) (length targets)) (is_target image) (length image / 8) targets
