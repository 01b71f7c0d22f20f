-- Answers about a memory.
use Rattle.std.specs.Prelude.{ℕ, List, ◌++◌, codes, decimal}
use Rattle.script.specs.Spelled.{spelling}
use Rattle.answers.specs.declared.memories.MemoryAnswer.{MemoryAnswer}
use Rattle.answers.specs.declared.memories.MemoryAnswer.TheVariants.{MadeFlat, MadePaged, MadeAnyway, Shown}

-- a flat memory was made
abbrev pub made_flat_text : ℕ → List ℕ
made_flat_text size = codes "memory flat " ++ decimal size

-- a paged memory was made
abbrev pub made_paged_text : ℕ → ℕ → List ℕ
made_paged_text size frames = codes "memory paged " ++ (decimal size ++ (codes " " ++ decimal frames))

-- what was made of a size or a count of frames that was refused
abbrev pub made_anyway_text : ℕ → List ℕ
made_anyway_text size = codes "memory " ++ decimal size

-- bytes of a memory
abbrev pub shown_text : List ℕ → List ℕ
shown_text bs = codes "bytes " ++ spelling bs

-- an answer about a memory in words
abbrev pub memory_answer_text : MemoryAnswer → List ℕ
memory_answer_text (MadeFlat size) = made_flat_text size
memory_answer_text (MadePaged size frames) = made_paged_text size frames
memory_answer_text (MadeAnyway size) = made_anyway_text size
memory_answer_text (Shown bytes) = shown_text bytes.now
