-- What a character stands for as a digit.
use Rattle.std.specs.Prelude.{ℕ, ◌+◌, ◌-◌, Bool, cond, ◌&&◌, Some, None, Option, nat_le}

-- does a character lie between two, both counted
abbrev pub between : ℕ → ℕ → ℕ → Bool
between low high c = nat_le low c && nat_le c high

-- 0 to 9, a to f and A to F
abbrev pub digit_of : ℕ → Option ℕ
digit_of c =
    cond (between 48 57 c) (Some (c - 48)) (cond (between 97 102 c) (Some (c - 97 + 10)) (cond (between 65 70 c) (Some (c - 65 + 10)) None))
