use Rattle.std.proofs.Common.{ℕ}
use Rattle.memory.specs.ValidLemmas.{get_or_filled}
use Rattle.memory.proofs.paged.frames.clear.Goals as goal

pub returns-clause-zeros : goal.returns-clause-zeros
returns-clause-zeros c k = get_or_filled {A = ℕ} 256 k 0
