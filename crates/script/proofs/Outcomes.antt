-- What comes after a first part.
use Rattle.std.proofs.Common.{◌≡◌, Ok, Result, ap}
use Rattle.script.specs.declared.problems.Problem.{Problem}
use Rattle.script.specs.Outcomes.{and_then}

pub goes_on : {X Y : Type 0} (r : Result X Problem) (f : X → Result Y Problem) (x : X) → r ≡ Ok x → and_then r f ≡ f x
goes_on {X} r f x e = ap (λ (r : Result X Problem). and_then r f) e
