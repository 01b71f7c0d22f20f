-- A run over a transition rule. State 0 rejects, state 1 accepts, state 2 starts.
use Rattle.std.specs.Prelude.{◌≡◌, ℕ, suc, ◌≤◌, cond, List, [], ◌∷◌, drop, Some, None, Option, ◌==◌}
use Rattle.std.specs.Option.{option_map}
use Rattle.x86.specs.Laws.{Inside}

-- how many bytes were read, if the byte just read led to the state t and the rest answers o
abbrev pub reached : ℕ → Option ℕ → Option ℕ
reached t o = cond (t == 0) None (cond (t == 1) (Some 1) (option_map suc o))

-- how many bytes a run reads from a state until it accepts
abbrev pub run : (ℕ → ℕ → ℕ) → ℕ → List ℕ → Option ℕ
run next s [] = None
run next s (b ∷ bs) = reached (next s b) (run next (next s b) bs)

-- a rule decides a grammar: the run from each place answers how long the pattern there is
abbrev pub Decides : (ℕ → ℕ → ℕ) → (List ℕ → ℕ → Option ℕ) → Type 0
Decides next grammar = (bs : List ℕ) (p : ℕ) → run next 2 (drop p bs) ≡ grammar bs p

-- a pattern lies inside the bytes and has at most 12
abbrev pub Short : (List ℕ → ℕ → Option ℕ) → Type 0
Short grammar = (bs : List ℕ) (p n : ℕ) → grammar bs p ≡ Some n → Inside bs p n × (n ≤ 12)
