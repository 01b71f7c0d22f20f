-- How numbers and bytes are written, and that what is written so is read back.
use Rattle.std.specs.Prelude.{◌≡◌, ℕ, ◌+◌, ◌/◌, ◌%◌, ◌^◌, ◌<◌, ◌≤◌, cond, List, [], ◌∷◌, ◌++◌, map, length, Ok, codes, decimal, Result, nat_lt}
use Rattle.std.specs.Int.Digits.{AllBelowBase, number_from_digits}
use Rattle.std.specs.List.{AllByRecursion}
use Rattle.script.specs.declared.problems.Problem.{Problem}
use Rattle.script.specs.Outcomes.{Answers}

-- the character of a digit: 0 to 9, a to f
abbrev pub character : ℕ → ℕ
character d = cond (nat_lt d 10) (48 + d) (87 + d)

-- the decimal digits of a number of 32 bits are read as that number
abbrev pub ReadsDecimal : List ℕ → Result ℕ Problem → Type 0
ReadsDecimal text r = (n : ℕ) → n < 2 ^ 32 → text ≡ decimal n → r ≡ Ok n

-- hexadecimal digits after 0x are read as the number that they spell
abbrev pub ReadsHexadecimal : List ℕ → Result ℕ Problem → Type 0
ReadsHexadecimal text r =
    (ds : List ℕ) → 0 < length ds → AllBelowBase 16 ds → number_from_digits 16 ds < 2 ^ 32 → text ≡ codes "0x" ++ map character ds → r ≡ Ok (number_from_digits 16 ds)

-- each byte as two hexadecimal digits
abbrev pub spelling : List ℕ → List ℕ
spelling [] = []
spelling (b ∷ bs) = character (b / 16) ∷ (character (b % 16) ∷ spelling bs)

-- bytes that are spelled so, and are not too many, are read back
abbrev pub ReadsBytes : {V : Type 0} → (V → List ℕ) → List ℕ → Result V Problem → Type 0
ReadsBytes items text r = (bs : List ℕ) → AllByRecursion (λ b. b < 256) bs → length bs ≤ 1048576 → text ≡ spelling bs → Answers items (Ok bs) r
