-- A flat memory as the meaning of a memory.
use Rattle.std.specs.Prelude.{vec_items}
use Rattle.memory.specs.Flats.{flat_meaning}
use Rattle.memory.specs.Meaning.{Meaning}
use Rattle.memory.specs.declared.flat.Flat.{Flat}

-- what a flat memory means
abbrev pub flat_view : Flat → Meaning
flat_view x = flat_meaning (vec_items x.bytes)
