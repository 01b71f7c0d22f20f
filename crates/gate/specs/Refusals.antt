-- The number and the address of a refusal, and the refusal in an answer.
use Rattle.std.specs.Prelude.{ℕ, List, ◌++◌, Some, None, Ok, Err, codes, decimal, Option, Result}
use Rattle.gate.specs.declared.passes.Refused.{Refused}
use Rattle.gate.specs.declared.refusals.Refusal.{Refusal}
use Rattle.gate.specs.declared.refusals.Refusal.TheVariants.{Length, Marks, Row, NoMatch, FarTarget, Unaligned, MidTarget}

-- the number of the check that refuses
abbrev pub number_of : Refusal → ℕ
number_of Length = 1
number_of Marks = 2
number_of Row = 3
number_of (NoMatch a) = 4
number_of (FarTarget a) = 5
number_of (Unaligned a) = 6
number_of (MidTarget a) = 7

-- the address that the refusal is about: 1 to 3 are about none
abbrev pub address_of : Refusal → Option ℕ
address_of Length = None
address_of Marks = None
address_of Row = None
address_of (NoMatch a) = Some a
address_of (FarTarget a) = Some a
address_of (Unaligned a) = Some a
address_of (MidTarget a) = Some a

-- why an image is handed back, if it is
abbrev pub refusal_in : {P : Type 0} → Result P Refused → Option Refusal
refusal_in (Ok p) = None
refusal_in (Err e) = Some e.refusal

-- a refusal in words, by its number and its address
abbrev pub refusal_text : ℕ → Option ℕ → List ℕ
refusal_text n None = codes "refused " ++ decimal n
refusal_text n (Some a) = codes "refused " ++ (decimal n ++ (codes " at " ++ decimal a))
