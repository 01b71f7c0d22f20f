-- The walk and the marks refuse with 4 to 7 only.
use Rattle.std.proofs.Common.{◌≡◌, ℕ, zero, suc, ◌+◌, ◌%◌, Bool, true, false, cond, eqb, ltb, List, length, Some, None, Option, refl}
use Rattle.std.specs.Option.{option_or}
use Rattle.gate.specs.declared.elements.Kind.{Kind}
use Rattle.gate.specs.declared.entries.EntryRow.{EntryRow}
use Rattle.gate.specs.declared.refusals.Refusal.{Refusal}
use Rattle.gate.specs.declared.refusals.Refusal.TheVariants.{Length, Marks, Row, NoMatch, FarTarget, Unaligned, MidTarget}
use Rattle.gate.specs.Elements.{taken_at, target_at}
use Rattle.gate.specs.Entries.{is_entry}
use Rattle.gate.specs.Walks.{if_taken, far_from, stop_from, stopped, is_start, is_target}
use Rattle.gate.specs.Verdicts.{first, wrong_at, misplaced, found, left_by, unmarked}

abbrev Late : Refusal → Type 0
Late Length = ⊥
Late Marks = ⊥
Late Row = ⊥
Late (NoMatch a) = Unit {0}
Late (FarTarget a) = Unit {0}
Late (Unaligned a) = Unit {0}
Late (MidTarget a) = Unit {0}

abbrev pub IfLate : Option Refusal → Type 0
IfLate None = Unit {0}
IfLate (Some r) = Late r

late_or : (a b : Option Refusal) → IfLate a → IfLate b → IfLate (option_or a b)
late_or None b h k = k
late_or (Some r) b h k = h

late_cond : (t : Bool) (a b : Option Refusal) → IfLate a → IfLate b → IfLate (cond t a b)
late_cond true a b h k = h
late_cond false a b h k = k

late_far : (n : ℕ) (row : EntryRow) (p : ℕ) (t : Option ℕ) → IfLate (far_from n row p t)
late_far n row p None = tt
late_far n row p (Some t) =
    late_cond (ltb t n) None (cond (is_entry row t) None (Some (FarTarget p))) tt (late_cond (is_entry row t) None (Some (FarTarget p)) tt tt)

late_taking : (o : Option (Kind × ℕ)) (p : ℕ) (on : ℕ → Option Refusal) → ((n : ℕ) → IfLate (on n)) → IfLate (if_taken o (Some (NoMatch p)) on)
late_taking None p on h = tt
late_taking (Some x) p on h = h x.1

late_stop : (f : ℕ) (bs : List ℕ) (row : EntryRow) (p : ℕ) → IfLate (stop_from f bs row p)
unfolding stop_from
late_stop zero bs row p = tt
late_stop (suc f) bs row p =
    let far : Option Refusal = far_from (length bs) row p (target_at bs p) in
    let on : ℕ → Option Refusal = λ n. option_or far (stop_from f bs row (p + n)) in
    late_cond (ltb p (length bs)) (if_taken (taken_at bs p) (Some (NoMatch p)) on) None (late_taking (taken_at bs p) p on (λ n. late_or far (stop_from f bs row (p + n)) (late_far (length bs) row p (target_at bs p)) (late_stop f bs row (p + n)))) tt

late_first : (n : ℕ) (f : ℕ → Option Refusal) → ((i : ℕ) → IfLate (f i)) → IfLate (first f n)
unfolding first
late_first zero f h = tt
late_first (suc n) f h = late_or (f 0) (first (λ i. f (suc i)) n) (h 0) (late_first n (λ i. f (suc i)) (λ i. h (suc i)))

late_wrong : (start target : ℕ → Bool) (i : ℕ) → IfLate (wrong_at start target i)
late_wrong start target i =
    let mid : Option Refusal = cond (target i) (Some (MidTarget i)) None in
    let block : Option Refusal = cond (eqb (i % 32) 0) (Some (Unaligned i)) mid in
    late_cond (start i) None block tt (late_cond (eqb (i % 32) 0) (Some (Unaligned i)) mid tt (late_cond (target i) (Some (MidTarget i)) None tt tt))

pub late_found : (image : List ℕ) (row : EntryRow) → IfLate (found image row)
late_found image row =
    late_or (stopped image row) (misplaced (is_start image) (is_target image) (length image)) (late_stop (length image) image row 0) (late_first (length image) (wrong_at (is_start image) (is_target image)) (late_wrong (is_start image) (is_target image)))

-- such a refusal leaves no marks
pub late_leaves : (r : Refusal) (k : ℕ) (old : List ℕ) → IfLate (Some r) → left_by r k old ≡ unmarked k old
late_leaves Length k old h = absurd h
late_leaves Marks k old h = absurd h
late_leaves Row k old h = absurd h
late_leaves (NoMatch a) k old h = refl
late_leaves (FarTarget a) k old h = refl
late_leaves (Unaligned a) k old h = refl
late_leaves (MidTarget a) k old h = refl
