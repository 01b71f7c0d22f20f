-- The walk: from address 0 it takes what matches and goes on after it.
use Rattle.std.specs.Prelude.{ℕ, zero, suc, ◌+◌, Bool, false, cond, ◌||◌, List, length, Some, None, Option, ◌==◌, nat_eq, nat_lt}
use Rattle.std.specs.Option.{option_or}
use Rattle.gate.specs.declared.elements.Kind.{Kind}
use Rattle.gate.specs.declared.entries.EntryRow.{EntryRow}
use Rattle.gate.specs.declared.refusals.Refusal.{Refusal}
use Rattle.gate.specs.declared.refusals.Refusal.TheVariants.{NoMatch, FarTarget}
use Rattle.gate.specs.Elements.{taken_at, target_at}
use Rattle.gate.specs.Entries.{is_entry}

-- one answer where nothing is taken, and another by the length of what is taken
abbrev pub if_taken : {A : Type 0} → Option (Kind × ℕ) → A → (ℕ → A) → A
if_taken None stop on = stop
if_taken (Some x) stop on = on x.1

-- m holds of an address where the walk from p on takes something; a turn for each byte is enough
unfoldable pub some_taken : ℕ → List ℕ → (ℕ → Bool) → ℕ → Bool
some_taken zero bs m p = false
some_taken (suc turns) bs m p =
    cond (nat_lt p (length bs)) (if_taken (taken_at bs p) false (λ n. m p || some_taken turns bs m (p + n))) false

-- the walk takes something at i
abbrev pub is_start : List ℕ → ℕ → Bool
is_start bs i = some_taken (length bs) bs (λ p. nat_eq p i) 0

-- the target is i
abbrev pub equals : ℕ → Option ℕ → Bool
equals i None = false
equals i (Some t) = t == i

-- a direct form that the walk takes goes to i
abbrev pub is_target : List ℕ → ℕ → Bool
is_target bs i = some_taken (length bs) bs (λ p. equals i (target_at bs p)) 0

-- a target of the form at p that is neither in an image of n bytes nor an entry
abbrev pub far_from : ℕ → EntryRow → ℕ → Option ℕ → Option Refusal
far_from n row p None = None
far_from n row p (Some t) = cond (nat_lt t n) None (cond (is_entry row t) None (Some (FarTarget p)))

-- the first refusal of the walk from p on
unfoldable pub stop_from : ℕ → List ℕ → EntryRow → ℕ → Option Refusal
stop_from zero bs row p = None
stop_from (suc turns) bs row p =
    cond (nat_lt p (length bs)) (if_taken (taken_at bs p) (Some (NoMatch p)) (λ n. option_or (far_from (length bs) row p (target_at bs p)) (stop_from turns bs row (p + n)))) None

-- the first refusal of the walk, 4 or 5
abbrev pub stopped : List ℕ → EntryRow → Option Refusal
stopped bs row = stop_from (length bs) bs row 0
