-- What the walk takes at an address, and where it goes to.
use Rattle.std.specs.Prelude.{ℕ, List, Some, None, Option}
use Rattle.std.specs.Option.{option_map, option_or}
use Rattle.automata.specs.Lengths.{pair_length_of, straight_length_of, direct_length_of, direct_target_of}
use Rattle.gate.specs.declared.elements.Kind.{Kind}
use Rattle.gate.specs.declared.elements.Kind.TheVariants.{Pair, Straight, Direct}

-- a length as an element of a kind
abbrev pub kinded : Kind → Option ℕ → Option (Kind × ℕ)
kinded k n = option_map (λ n. (k, n)) n

-- what is taken at p and how long it is: a pair before a straight form before a direct form
unfoldable pub taken_at : List ℕ → ℕ → Option (Kind × ℕ)
taken_at bs p =
    option_or (kinded Pair (pair_length_of bs p)) (option_or (kinded Straight (straight_length_of bs p)) (kinded Direct (direct_length_of bs p)))

-- only a direct form has a target
abbrev pub if_direct : Kind → Option ℕ → Option ℕ
if_direct Pair t = None
if_direct Straight t = None
if_direct Direct t = t

-- the target of what is taken, if it is a direct form
abbrev pub aim_of : Option (Kind × ℕ) → Option ℕ → Option ℕ
aim_of None t = None
aim_of (Some x) t = if_direct x.0 t

-- where the direct form goes to that is taken at p: none if something else is taken there
unfoldable pub target_at : List ℕ → ℕ → Option ℕ
target_at bs p = aim_of (taken_at bs p) (direct_target_of bs p)
