-- The bytes that groups of hexadecimal digits write.
use Rattle.std.specs.Prelude.{ℕ, ◌+◌, ◌*◌, cond, List, [], ◌∷◌, ◌++◌, length, take, drop, Some, None, Ok, Err, Option, Result, ◌==◌, nat_le}
use Rattle.script.specs.declared.problems.Problem.{Problem}
use Rattle.script.specs.declared.problems.Problem.TheVariants.{OddDigits, NoHexDigit, TooManyBytes}
use Rattle.script.specs.Digits.{digit_of}
use Rattle.script.specs.Numbers.{number_of}
use Rattle.script.specs.Outcomes.{and_then}
use Rattle.std.specs.List.{prefix_len, repeat}
use Rattle.script.specs.Parts.{is_not}
use Rattle.script.specs.Words.{words_of}

-- two digits are a byte
abbrev pub byte_from : Option ℕ → Option ℕ → Result ℕ Problem
byte_from None low = Err NoHexDigit
byte_from (Some h) None = Err NoHexDigit
byte_from (Some h) (Some l) = Ok (h * 16 + l)

-- the byte that two characters write
abbrev pub byte_of : ℕ → ℕ → Result ℕ Problem
byte_of high low = byte_from (digit_of high) (digit_of low)

-- a digit that no other stands beside is odd
abbrev pub odd_from : Option ℕ → Problem
odd_from None = NoHexDigit
odd_from (Some d) = OddDigits

-- what is wrong with a character that no other stands beside
abbrev pub left_over : ℕ → Problem
left_over c = odd_from (digit_of c)

-- bytes go on with those that pairs of digits write
abbrev pub pairs_of : List ℕ → List ℕ → Result (List ℕ) Problem
pairs_of done [] = Ok done
pairs_of done (c ∷ []) = Err (left_over c)
pairs_of done (high ∷ (low ∷ cs)) = and_then (byte_of high low) (λ b. pairs_of (done ++ (b ∷ [])) cs)

-- bytes go on with a group, n times over, as long as they are no more than the limit
abbrev pub repeated_of : List ℕ → List ℕ → ℕ → Result (List ℕ) Problem
repeated_of done group n = cond (nat_le (length done + length group * n) 1048576) (Ok (done ++ repeat n group)) (Err TooManyBytes)

-- after the digits of a group: nothing, which is once, or a * and how often they come
abbrev pub count_of : List ℕ → Result ℕ Problem
count_of [] = Ok 1
count_of (star ∷ text) = number_of text

-- how many characters of a word stand before a *
abbrev pub digit_count : List ℕ → ℕ
digit_count word = prefix_len (is_not 42) word

-- bytes go on with a group: at least one pair of digits, and how often they come
abbrev pub group_of : List ℕ → List ℕ → Result (List ℕ) Problem
group_of done word =
    cond (digit_count word == 0) (Err NoHexDigit)
    (and_then (pairs_of [] (take (digit_count word) word)) (λ group. and_then (count_of (drop (digit_count word) word)) (λ n. repeated_of done group n)))

-- bytes go on with the groups that words write
abbrev pub groups_of : List ℕ → List (List ℕ) → Result (List ℕ) Problem
groups_of done [] = Ok done
groups_of done (word ∷ more) = and_then (group_of done word) (λ bytes. groups_of bytes more)

-- the bytes of a module
abbrev pub bytes_of : List ℕ → Result (List ℕ) Problem
bytes_of text = groups_of [] (words_of text)
