-- Answers that may be a problem.
use Rattle.std.specs.Prelude.{◌≡◌, Bool, true, false, Ok, Err, Result, ◌≢◌}
use Rattle.script.specs.declared.problems.Problem.{Problem}
use Rattle.script.specs.declared.problems.Problem.TheVariants.{OutOfMemory}

-- the first part's problem, or what comes after it
abbrev pub and_then : {X Y : Type 0} → Result X Problem → (X → Result Y Problem) → Result Y Problem
and_then (Ok x) f = f x
and_then (Err p) f = Err p

-- an answer means what is looked for
abbrev pub Says : {V X : Type 0} → (V → X) → Result X Problem → Result V Problem → Type 0
Says meaning x (Ok v) = x ≡ Ok (meaning v)
Says meaning x (Err p) = x ≡ Err p

-- an answer means what is looked for, unless memory was wanting
abbrev pub Answers : {V X : Type 0} → (V → X) → Result X Problem → Result V Problem → Type 0
Answers meaning x (Ok v) = x ≡ Ok (meaning v)
Answers meaning x (Err p) = (p ≢ OutOfMemory) → x ≡ Err p

-- an answer means what is looked for; only under b may memory have been wanting instead
abbrev pub AnswersIf : {V X : Type 0} → Bool → (V → X) → Result X Problem → Result V Problem → Type 0
AnswersIf true meaning x r = Answers meaning x r
AnswersIf false meaning x r = Says meaning x r
