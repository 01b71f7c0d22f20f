-- A paged memory as the meaning of a memory.
use Rattle.std.specs.Prelude.{vec_items}
use Rattle.memory.specs.Meaning.{Meaning}
use Rattle.memory.specs.Pages.{paged_meaning}
use Rattle.memory.specs.declared.paged.Paged.{Paged}

-- what a paged memory means
abbrev pub paged_view : Paged → Meaning
paged_view x = paged_meaning x.size x.table (vec_items x.frames) x.used
