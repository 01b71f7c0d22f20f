use Rattle.std.proofs.Common.{ℕ, None, Option}
use Rattle.memory.specs.ValidLemmas.{get_or_filled}
use Rattle.memory.proofs.paged.making.no_frames.Goals as goal

pub returns-clause-none : goal.returns-clause-none
returns-clause-none c p = get_or_filled {A = Option ℕ} 4096 p None
