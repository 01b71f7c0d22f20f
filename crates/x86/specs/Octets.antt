use Rattle.std.specs.Prelude.{ℕ, ◌<◌, ◌≤◌, List, slice_index}

-- each number from p up to q is a byte
abbrev pub Octets : List ℕ → ℕ → ℕ → Type 0
Octets bs p q = (k : ℕ) → p ≤ k → k < q → slice_index bs k < 256
