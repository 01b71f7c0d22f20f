-- What a flat memory is made of and means.
use Rattle.std.specs.Prelude.{◌≡◌, ℕ, ◌/◌, true, cond, ◌||◌, List, [], ◌∷◌, length, replicate, Ok, Err, Result, ◌==◌}
use Rattle.memory.specs.Meaning.{Meaning, fits, unfit_memory}
use Rattle.memory.specs.declared.faults.Unfit.{Unfit}
use Rattle.memory.specs.declared.faults.Unfit.TheVariants.{Size}

-- whether a buffer of n bytes will do
abbrev pub flat_check : ℕ → Result (Unit {0}) Unfit
flat_check n = cond (fits n) (Ok tt) (Err Size)

-- a buffer as a memory: all pages held, none free
abbrev pub whole : List ℕ → Meaning
whole xs = record { size = length xs; bytes = xs; held = replicate (length xs / 256) true; free = 0 }

-- what is made of a buffer
abbrev pub flat_made : List ℕ → Meaning
flat_made xs = cond (fits (length xs)) (whole xs) unfit_memory

-- the buffers that a flat memory keeps: of a fit length, or empty for one that was not
abbrev pub Kept : List ℕ → Type 0
Kept xs = (length xs == 0 || fits (length xs)) ≡ true

-- what a flat memory means that keeps this buffer
abbrev pub flat_meaning : List ℕ → Meaning
flat_meaning [] = unfit_memory
flat_meaning (b ∷ bs) = whole (b ∷ bs)
