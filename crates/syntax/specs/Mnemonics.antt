-- A mnemonic before its operands.
use Rattle.std.specs.Prelude.{ℕ, ◌-◌, List, ◌++◌, length, replicate, codes}

-- the spaces behind a mnemonic of n letters: up to six columns, and one more
abbrev pub gap_text : ℕ → List ℕ
gap_text n = replicate (6 - n) 32 ++ codes " "

-- a mnemonic with the spaces behind it
abbrev pub mnemonic_text : List ℕ → List ℕ
mnemonic_text m = m ++ gap_text (length m)
