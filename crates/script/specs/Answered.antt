-- Answers in words.
use Rattle.std.specs.Prelude.{ℕ, List, ◌∷◌, ◌++◌, codes, decimal}
use Rattle.script.specs.declared.answers.Answer.{Answer}
use Rattle.script.specs.declared.answers.Answer.TheVariants.{Taken, Rowed, Ended, Passed, Marked, Failed}
use Rattle.script.specs.declared.problems.Problem.{Problem}
use Rattle.script.specs.Explained.{explanation}
use Rattle.script.specs.Spelled.{spelling}

-- a module of n bytes was taken
abbrev pub taken_text : ℕ → List ℕ
taken_text n = codes "module " ++ (decimal n ++ codes " bytes")

-- the entry row from now on
abbrev pub rowed_text : ℕ → ℕ → List ℕ
rowed_text base count = codes "row " ++ (decimal base ++ (codes " " ++ decimal count))

-- a listing came to the end, after n bytes
abbrev pub ended_text : ℕ → List ℕ
ended_text n = codes "end " ++ decimal n

abbrev pub passed_text : List ℕ
passed_text = codes "passed"

-- the marks of starts and of direct targets; 10 begins a new line
abbrev pub marked_text : List ℕ → List ℕ → List ℕ
marked_text starts targets = codes "starts " ++ (spelling starts ++ ((10 ∷ codes "targets ") ++ spelling targets))

-- a line could not be carried out
abbrev pub failure_text : ℕ → Problem → List ℕ
failure_text line why = codes "error line " ++ (decimal line ++ (codes ": " ++ explanation why))

-- an answer in words
abbrev pub answer_text : Answer → List ℕ
answer_text (Taken n) = taken_text n
answer_text (Rowed base count) = rowed_text base count
answer_text (Ended n) = ended_text n
answer_text Passed = passed_text
answer_text (Marked starts targets) = marked_text starts.now targets.now
answer_text (Failed line why) = failure_text line why
