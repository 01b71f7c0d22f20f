-- What the reader hands out.
use Rattle.std.specs.Prelude.{◌≡◌, ℕ, ◌+◌, ◌<◌, Bool, true, false, ◌&&◌, List, length, take, drop, Some, None, Ok, Err, Option, Result, nat_lt}
use Rattle.gate.specs.declared.readers.Element.{Element}
use Rattle.gate.specs.declared.readers.Reader.{Reader}
use Rattle.gate.specs.declared.refusals.Refusal.{Refusal}
use Rattle.gate.specs.declared.refusals.Refusal.TheVariants.{Length, NoMatch}
use Rattle.gate.specs.Elements.{taken_at}
use Rattle.gate.specs.Verdicts.{fits_length}

-- a reader of an image stands at its start; an image of another length is refused with 1
abbrev pub Opens : List ℕ → Result Reader Refusal → Type 0
Opens image (Ok r) = (fits_length (length image) ≡ true) × (r.image.now ≡ image) × (r.at ≡ 0)
Opens image (Err r) = (fits_length (length image) ≡ false) × (r ≡ Length)

-- an element is still to come from p on
abbrev pub more : List ℕ → ℕ → Bool
more image p = fits_length (length image) && nat_lt p (length image)

-- the element at p: what is taken there, with its bytes, of which there are some
abbrev pub ElementAt : List ℕ → ℕ → Element → Type 0
ElementAt image p e =
    (taken_at image p ≡ Some (e.kind, length e.bytes.now)) × (e.at ≡ p) × (e.bytes.now ≡ take (length e.bytes.now) (drop p image)) × (0 < length e.bytes.now)

-- from p the reader hands out r and goes to q: an element and past it, a refusal and stays, or nothing at the end
abbrev pub Reads : List ℕ → ℕ → Option (Result Element Refusal) → ℕ → Type 0
Reads image p None q = (more image p ≡ false) × (q ≡ p)
Reads image p (Some (Ok e)) q = (more image p ≡ true) × ElementAt image p e × (q ≡ p + length e.bytes.now)
Reads image p (Some (Err r)) q = (more image p ≡ true) × (taken_at image p ≡ None) × (r ≡ NoMatch p) × (q ≡ p)
