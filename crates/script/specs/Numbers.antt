-- The number that a text is.
use Rattle.std.specs.Prelude.{ℕ, ◌+◌, ◌*◌, ◌^◌, cond, List, [], ◌∷◌, length, take, drop, Some, None, Ok, Err, codes, Option, Result, ◌==◌, nat_lt}
use Rattle.std.specs.Str.{bytes_eq}
use Rattle.script.specs.declared.problems.Problem.{Problem}
use Rattle.script.specs.declared.problems.Problem.TheVariants.{NoNumber, NumberTooLarge}
use Rattle.script.specs.Digits.{digit_of}
use Rattle.script.specs.Outcomes.{and_then}

-- the number n goes on with a digit of the base
abbrev pub grown_by : ℕ → ℕ → Option ℕ → Result ℕ Problem
grown_by base n None = Err NoNumber
grown_by base n (Some d) =
    cond (nat_lt d base) (cond (nat_lt (n * base + d) (2 ^ 32)) (Ok (n * base + d)) (Err NumberTooLarge)) (Err NoNumber)

-- the number that digits of a base spell, after digits that spell n
abbrev pub value_of : ℕ → ℕ → List ℕ → Result ℕ Problem
value_of base n [] = Ok n
value_of base n (c ∷ cs) = and_then (grown_by base n (digit_of c)) (λ m. value_of base m cs)

-- the digits of a base, at least one
abbrev pub numeral_of : ℕ → List ℕ → Result ℕ Problem
numeral_of base cs = cond (length cs == 0) (Err NoNumber) (value_of base 0 cs)

-- decimal, or hexadecimal after 0x
abbrev pub number_of : List ℕ → Result ℕ Problem
number_of text = cond (bytes_eq (take 2 text) (codes "0x")) (numeral_of 16 (drop 2 text)) (numeral_of 10 text)
