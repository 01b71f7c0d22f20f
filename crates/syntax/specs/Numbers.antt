-- Numbers in hexadecimal.
use Rattle.std.specs.Prelude.{ℕ, false, List, ◌++◌, codes}
use Rattle.std.specs.Fmt.{digits}

-- a number as it stands in an instruction: its lower-case digits, with no zero in front
abbrev pub number_text : ℕ → List ℕ
number_text n = codes "0x" ++ digits 16 false n
