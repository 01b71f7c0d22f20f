-- What is taken at an address, from the three lengths.
use Rattle.std.proofs.Common.{◌≡◌, ℕ, List, Some, None, Option, sym, refl, ap}
use Rattle.std.specs.Option.{option_or}
use Rattle.automata.specs.Lengths.{pair_length_of, straight_length_of, direct_length_of, direct_target_of}
use Rattle.gate.specs.declared.elements.Kind.{Kind}
use Rattle.gate.specs.declared.elements.Kind.TheVariants.{Pair, Straight, Direct}
use Rattle.gate.specs.Elements.{kinded, taken_at, target_at, aim_of}

abbrev choice : Option ℕ → Option ℕ → Option ℕ → Option (Kind × ℕ)
choice a b c = option_or (kinded Pair a) (option_or (kinded Straight b) (kinded Direct c))

of_pair_lem : (a b c : Option ℕ) (n : ℕ) → Some n ≡ a → choice a b c ≡ Some (Pair, n)
of_pair_lem a b c n e = rw (sym e) refl

of_straight_lem : (a b c : Option ℕ) (n : ℕ) → None ≡ a → Some n ≡ b → choice a b c ≡ Some (Straight, n)
of_straight_lem a b c n d e = rw (sym d, sym e) refl

of_direct_lem : (a b c : Option ℕ) (n : ℕ) → None ≡ a → None ≡ b → Some n ≡ c → choice a b c ≡ Some (Direct, n)
of_direct_lem a b c n d e f = rw (sym d, sym e, sym f) refl

of_none : (a b c : Option ℕ) → None ≡ a → None ≡ b → None ≡ c → choice a b c ≡ None
of_none a b c d e f = rw (sym d, sym e, sym f) refl

pub pair_taken : (bs : List ℕ) (p n : ℕ) → Some n ≡ pair_length_of bs p → taken_at bs p ≡ Some (Pair, n)
unfolding taken_at
pair_taken bs p n e = of_pair_lem (pair_length_of bs p) (straight_length_of bs p) (direct_length_of bs p) n e

pub straight_taken : (bs : List ℕ) (p n : ℕ) → None ≡ pair_length_of bs p → Some n ≡ straight_length_of bs p → taken_at bs p ≡ Some (Straight, n)
unfolding taken_at
straight_taken bs p n d e = of_straight_lem (pair_length_of bs p) (straight_length_of bs p) (direct_length_of bs p) n d e

pub direct_taken : (bs : List ℕ) (p n : ℕ) → None ≡ pair_length_of bs p → None ≡ straight_length_of bs p → Some n ≡ direct_length_of bs p → taken_at bs p ≡ Some (Direct, n)
unfolding taken_at
direct_taken bs p n d e f = of_direct_lem (pair_length_of bs p) (straight_length_of bs p) (direct_length_of bs p) n d e f

pub none_taken : (bs : List ℕ) (p : ℕ) → None ≡ pair_length_of bs p → None ≡ straight_length_of bs p → None ≡ direct_length_of bs p → taken_at bs p ≡ None
unfolding taken_at
none_taken bs p d e f = of_none (pair_length_of bs p) (straight_length_of bs p) (direct_length_of bs p) d e f

aim : (o : Option (Kind × ℕ)) (t : Option ℕ) (x : Kind × ℕ) → o ≡ Some x → aim_of o t ≡ aim_of (Some x) t
aim o t x e = ap (λ o. aim_of o t) e

pub target_of_pair : (bs : List ℕ) (p n : ℕ) → taken_at bs p ≡ Some (Pair, n) → target_at bs p ≡ None
unfolding target_at
target_of_pair bs p n e = aim (taken_at bs p) (direct_target_of bs p) (Pair, n) e

pub target_of_straight : (bs : List ℕ) (p n : ℕ) → taken_at bs p ≡ Some (Straight, n) → target_at bs p ≡ None
unfolding target_at
target_of_straight bs p n e = aim (taken_at bs p) (direct_target_of bs p) (Straight, n) e

pub target_of_direct : (bs : List ℕ) (p n : ℕ) → taken_at bs p ≡ Some (Direct, n) → target_at bs p ≡ direct_target_of bs p
unfolding target_at
target_of_direct bs p n e = aim (taken_at bs p) (direct_target_of bs p) (Direct, n) e
