use Rattle.std.proofs.Common.{sym, arith}
use Rattle.memory.proofs.Puts.{put_outside}
use Rattle.memory.proofs.paged.access.PagedMemory.put.Goals as goal

pub returns-then-address-width : goal.returns-then-address-width
returns-then-address-width c = sym (put_outside _ _ _ (omega arith))
