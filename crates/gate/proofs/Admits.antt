-- An image that meets the policy is not refused by the walk, nor by the marks.
use Rattle.std.proofs.Common.{◌≡◌, ℕ, zero, suc, ◌+◌, ◌-◌, ◌%◌, ◌<◌, ◌≤◌, Bool, true, false, cond, ◌||◌, eqb, ltb, leb, ◌⊎◌, List, [], ◌∷◌, ◌++◌, length, take, drop, Some, None, Option, sym, refl, ap, ◌∙◌, subst, inl, inr, arith, length-append, length-drop, take-append-drop, drop-drop}
use lib.Seq.{drop-append_seam}
use Rattle.std.proofs.lemmas.Bool.{and_parts, leb-true, eqb-true, eq-eqb, lt-ltb, cond-true}
use Rattle.std.specs.Option.{option_or}
use Rattle.x86.specs.declared.registers.Register.{Register}
use Rattle.x86.specs.declared.instructions.Loose.TheVariants as loose
use Rattle.x86.specs.declared.instructions.Instruction.{Instruction}
use Rattle.x86.specs.declared.instructions.Instruction.TheVariants.{Straight, Direct, Loose}
use Rattle.x86.specs.declared.pairs.Transfer.{Transfer}
use Rattle.x86.specs.declared.pairs.Transfer.TheVariants.{Jump, Call}
use Rattle.x86.specs.declared.pairs.Pair.{Pair}
use Rattle.x86.specs.Numbers.{register_of}
use Rattle.x86.specs.Decoded.{decoded_at, instruction_of}
use Rattle.x86.specs.Grammar.{Encodes}
use Rattle.x86.specs.Instructions.{target}
use Rattle.x86.specs.Laws.{Pairs, paired, mask, leave}
use Rattle.x86.specs.Pairs.{pair_at, pair_of, mask_of, leave_of}
use Rattle.x86.proofs.Meets.{every_encoding}
use Rattle.x86.proofs.Paired.{every_pair, only_pairs}
use Rattle.x86.proofs.Unambiguous.{unambiguous, halves, short}
use Rattle.automata.specs.Lengths.{of_pair, of_straight, of_direct, target_in}
use Rattle.gate.specs.declared.elements.Kind.{Kind}
use Rattle.gate.specs.declared.elements.Kind.TheVariants as kind
use Rattle.gate.specs.declared.entries.EntryRow.{EntryRow}
use Rattle.gate.specs.declared.refusals.Refusal.{Refusal}
use Rattle.gate.specs.declared.refusals.Refusal.TheVariants.{FarTarget, Unaligned, MidTarget}
use Rattle.gate.specs.Elements.{taken_at, target_at}
use Rattle.gate.specs.Entries.{row_fits, is_entry}
use Rattle.gate.proofs.Entered.{tested}
use Rattle.gate.specs.Policy.{Placed, placed, Divides, done, next, Among, here, there, Adjacent, first, further, Leaves, Permitted, Guards, Lands, Guarded, Standing, Meets}
use Rattle.gate.specs.Walks.{some_taken, is_start, equals, is_target, far_from, stop_from, stopped}
use Rattle.gate.specs.Verdicts as verdicts
use Rattle.gate.specs.Verdicts.{wrong_at, misplaced, found}
use Rattle.gate.proofs.Taken.{pair_taken, straight_taken, direct_taken, target_of_pair, target_of_straight, target_of_direct}
use Rattle.gate.proofs.Turns.{some_taken_on, some_taken_ends, stop_on, stop_ends}

among_split : (y : Placed) (l : List Placed) → Among y l → (x : Placed) (is : List Placed) → l ≡ x ∷ is → (y ≡ x) ⊎ Among y is
among_split _ _ (here y js) x is e = let z : y ≡ x = cc in inl z
among_split _ _ (there y w js h) x is e = let z : js ≡ is = cc in inr (subst (λ (l : List Placed). Among y l) z h)

-- the first instruction of a division, and the division of what follows
record Split (p : ℕ) (rest : List ℕ) (x : Placed) (is : List Placed) : Type 0 where
  after : List ℕ
  joins : rest ≡ x.bytes ++ after
  stands : x.address ≡ p
  encodes : Encodes x.instruction x.bytes
  divides : Divides (p + length x.bytes) after is

split_first : (p : ℕ) (rest : List ℕ) (l : List Placed) → Divides p rest l → (x : Placed) (is : List Placed) → l ≡ x ∷ is → Split p rest x is
split_first _ _ _ (done p) x is e = let z : ◌≡◌ {A = ℕ} 0 1 = cc in absurd (omega arith)
split_first _ _ _ (next p i e rest js s d) x is h =
    let a : placed p i e ≡ x = cc in
    let b : js ≡ is = cc in
    subst (λ (x : Placed). Split p (e ++ rest) x is) a
    (subst (λ (is : List Placed). Split p (e ++ rest) (placed p i e) is) b (record { after = rest; joins = refl; stands = refl; encodes = s; divides = d }))

nothing_left : (p : ℕ) (rest : List ℕ) (l : List Placed) → Divides p rest l → l ≡ [] → rest ≡ []
nothing_left _ _ _ (done p) e = refl
nothing_left _ _ _ (next p i e rest js s d) h = let z : ◌≡◌ {A = ℕ} 0 1 = cc in absurd (omega arith)

among_none : (y : Placed) (l : List Placed) → Among y l → l ≡ [] → ⊥
among_none _ _ (here y js) e = let z : ◌≡◌ {A = ℕ} 0 1 = cc in omega arith
among_none _ _ (there y w js h) e = let z : ◌≡◌ {A = ℕ} 0 1 = cc in omega arith

-- where the instructions of a division stand
between_by : (p : ℕ) (i : Instruction) (e rest : List ℕ) (js : List Placed) (y : Placed) → Encodes i e → (y ≡ placed p i e) ⊎ Among y js →
    (Among y js → (p + length e ≤ y.address) × (y.address < p + length e + length rest)) → (p ≤ y.address) × (y.address < p + length (e ++ rest))
between_by p i e rest js y s (inl z) f =
    let a : y.address ≡ p = ap (λ (y : Placed). y.address) z in
    (omega arith, omega (arith, (short i e s).0, length-append e rest))
between_by p i e rest js y s (inr h) f = (omega (arith, (f h).0), omega (arith, (f h).1, length-append e rest))

between : (p : ℕ) (rest : List ℕ) (l : List Placed) → Divides p rest l → (y : Placed) → Among y l → (p ≤ y.address) × (y.address < p + length rest)
between _ _ _ (done p) y h = absurd (among_none y [] h refl)
between _ _ _ (next p i e rest js s d) y h =
    between_by p i e rest js y s (among_split y (placed p i e ∷ js) h (placed p i e) js refl) (λ k. between (p + length e) rest js d y k)

-- what comes later stands further on
further_on : (p : ℕ) (rest : List ℕ) (x : Placed) (is : List Placed) → Divides p rest (x ∷ is) → (y : Placed) → Among y is → x.address < y.address
further_on p rest x is d y h =
    let s = split_first p rest (x ∷ is) d x is refl in
    omega (arith, s.stands, (short x.instruction x.bytes s.encodes).0, (between (p + length x.bytes) s.after is s.divides y h).0)

not_again : (p : ℕ) (rest : List ℕ) (x : Placed) (is : List Placed) → Divides p rest (x ∷ is) → Among x is → ⊥
not_again p rest x is d h = omega (arith, further_on p rest x is d x h)

adjacent_split : (g y : Placed) (l : List Placed) → Adjacent g y l → (x : Placed) (is : List Placed) → l ≡ x ∷ is → ((g ≡ x) × ((tail : List Placed) × (is ≡ y ∷ tail))) ⊎ Adjacent g y is
adjacent_split _ _ _ (first g y js) x is e =
    let a : g ≡ x = cc in
    let b : is ≡ y ∷ js = cc in
    inl (a, (js, b))
adjacent_split _ _ _ (further g y w js h) x is e = let z : js ≡ is = cc in inr (subst (λ (l : List Placed). Adjacent g y l) z h)

adjacent_in : (g y : Placed) (l : List Placed) → Adjacent g y l → Among y l
adjacent_in _ _ _ (first g y js) = there y g (y ∷ js) (here y js)
adjacent_in _ _ _ (further g y w js h) = there y w js (adjacent_in g y js h)

-- what follows another is not the first
adjacent_behind : (g y : Placed) (l : List Placed) → Adjacent g y l → (x : Placed) (is : List Placed) → l ≡ x ∷ is → Among y is
adjacent_behind _ _ _ (first g y js) x is e = let z : y ∷ js ≡ is = cc in subst (λ (l : List Placed). Among y l) z (here y js)
adjacent_behind _ _ _ (further g y w js h) x is e = let z : js ≡ is = cc in subst (λ (l : List Placed). Among y l) z (adjacent_in g y js h)

-- one ends where the next stands
touches_by : (p : ℕ) (i : Instruction) (e rest : List ℕ) (js : List Placed) (g y : Placed) → Divides (p + length e) rest js →
    ((g ≡ placed p i e) × ((tail : List Placed) × (js ≡ y ∷ tail))) ⊎ Adjacent g y js → (Adjacent g y js → g.address + length g.bytes ≡ y.address) → g.address + length g.bytes ≡ y.address
touches_by p i e rest js g y d (inl z) f =
    let s = split_first (p + length e) rest js d y z.1.0 z.1.1 in
    let a : g.address + length g.bytes ≡ p + length e = ap (λ (g : Placed). g.address + length g.bytes) z.0 in
    a ∙ sym s.stands
touches_by p i e rest js g y d (inr h) f = f h

touches : (p : ℕ) (rest : List ℕ) (l : List Placed) → Divides p rest l → (g y : Placed) → Adjacent g y l → g.address + length g.bytes ≡ y.address
touches _ _ _ (done p) g y h = absurd (among_none y [] (adjacent_in g y [] h) refl)
touches _ _ _ (next p i e rest js s d) g y h =
    touches_by p i e rest js g y d (adjacent_split g y (placed p i e ∷ js) h (placed p i e) js refl) (λ k. touches (p + length e) rest js d g y k)

leaves_or_not : (i : Instruction) → Leaves i ⊎ (Leaves i → ⊥)
leaves_or_not (Straight i) = inr (λ h. h)
leaves_or_not (Direct i) = inr (λ h. h)
leaves_or_not (Loose (loose.Jump r)) = inl tt
leaves_or_not (Loose (loose.Call r)) = inl tt
leaves_or_not (Loose loose.Return) = inr (λ h. h)
leaves_or_not (Loose (loose.Interrupt n)) = inr (λ h. h)
leaves_or_not (Loose (loose.LoadSegment s r)) = inr (λ h. h)

-- the first is no jump or call through a register
abbrev Plain : List Placed → Type 0
Plain [] = Unit {0}
Plain (x ∷ is) = Leaves x.instruction → ⊥

-- those behind the first are guarded by one of these
abbrev Watched : List Placed → Type 0
Watched [] = Unit {0}
Watched (x ∷ is) = (y : Placed) → Among y is → Leaves y.instruction → Guarded (x ∷ is) y

-- a guard of one that comes later is not the first
watched_by : (q : ℕ) (after : List ℕ) (x y z : Placed) (is : List Placed) → Divides q after (y ∷ is) → Among z is → (g : Guarded (x ∷ (y ∷ is)) z) →
    ((g.guard ≡ x) × ((tail : List Placed) × (y ∷ is ≡ z ∷ tail))) ⊎ Adjacent g.guard z (y ∷ is) → Guarded (y ∷ is) z
watched_by q after x y z is d h g (inl k) =
    let e = k.1.1 in
    let a : y ≡ z = cc in
    absurd (not_again q after y is d (subst (λ (z : Placed). Among z is) (sym a) h))
watched_by q after x y z is d h g (inr k) = record { guard = g.guard; before = k; guards = g.guards }

watched_next : (q : ℕ) (after : List ℕ) (x : Placed) (is : List Placed) → Divides q after is → Watched (x ∷ is) → Watched is
watched_next q after x [] d w = tt
watched_next q after x (y ∷ is) d w =
    λ z h l.
    let g = w z (there z y is h) l in
    watched_by q after x y z is d h g (adjacent_split g.guard z (x ∷ (y ∷ is)) g.before x (y ∷ is) refl)

-- the second is guarded by the first
guard_by : (q : ℕ) (after : List ℕ) (x y : Placed) (is : List Placed) → Divides q after (y ∷ is) → (g : Guarded (x ∷ (y ∷ is)) y) →
    ((g.guard ≡ x) × ((tail : List Placed) × (y ∷ is ≡ y ∷ tail))) ⊎ Adjacent g.guard y (y ∷ is) → Guards x y
guard_by q after x y is d g (inl k) = subst (λ (x : Placed). Guards x y) k.0 g.guards
guard_by q after x y is d g (inr k) = absurd (not_again q after y is d (adjacent_behind g.guard y (y ∷ is) k y is refl))

guard_of : (q : ℕ) (after : List ℕ) (x y : Placed) (is : List Placed) → Divides q after (y ∷ is) → Watched (x ∷ (y ∷ is)) → Leaves y.instruction → Guards x y
guard_of q after x y is d w l =
    let g = w y (here y is) l in
    guard_by q after x y is d g (adjacent_split g.guard y (x ∷ (y ∷ is)) g.before x (y ∷ is) refl)

-- what lies ahead of the walk at p
record Ahead (bs : List ℕ) (p : ℕ) (is : List Placed) : Type 0 where
  rest : List ℕ
  from : drop p bs ≡ rest
  divides : Divides p rest is
  permitted : (y : Placed) → Among y is → Permitted y.instruction
  watched : Watched is

ahead_split : (bs : List ℕ) (p : ℕ) (x : Placed) (is : List Placed) → (a : Ahead bs p (x ∷ is)) → Split p a.rest x is
ahead_split bs p x is a = split_first p a.rest (x ∷ is) a.divides x is refl

-- the bytes of the first stand at p
ahead_bytes : (bs : List ℕ) (p : ℕ) (x : Placed) (is : List Placed) → (a : Ahead bs p (x ∷ is)) → drop p bs ≡ x.bytes ++ (ahead_split bs p x is a).after
ahead_bytes bs p x is a = a.from ∙ (ahead_split bs p x is a).joins

ahead_inside : (bs : List ℕ) (p : ℕ) (x : Placed) (is : List Placed) → Ahead bs p (x ∷ is) → (1 ≤ length x.bytes) × (p + length x.bytes ≤ length bs)
ahead_inside bs p x is a =
    let s = ahead_split bs p x is a in
    let o : 1 ≤ length x.bytes = (short x.instruction x.bytes s.encodes).0 in
    let e : length bs - p ≡ length x.bytes + length s.after = sym (length-drop p bs) ∙ ap length (ahead_bytes bs p x is a) ∙ length-append x.bytes s.after in
    (o, omega arith)

ahead_next : (bs : List ℕ) (p : ℕ) (x : Placed) (is : List Placed) → Ahead bs p (x ∷ is) → Ahead bs (p + length x.bytes) is
ahead_next bs p x is a =
    let s = ahead_split bs p x is a in
    record {
      rest = s.after;
      from = sym (drop-drop (length x.bytes) p bs) ∙ ap (drop (length x.bytes)) (ahead_bytes bs p x is a) ∙ drop-append_seam x.bytes s.after;
      divides = s.divides;
      permitted = λ y h. a.permitted y (there y x is h);
      watched = watched_next (p + length x.bytes) s.after x is s.divides a.watched;
    }

ahead_guard : (bs : List ℕ) (p : ℕ) (x y : Placed) (is : List Placed) → Ahead bs p (x ∷ (y ∷ is)) → Leaves y.instruction → Guards x y
ahead_guard bs p x y is a l =
    let s = ahead_split bs p x (y ∷ is) a in
    guard_of (p + length x.bytes) s.after x y is s.divides a.watched l

ahead_end : (bs : List ℕ) (p : ℕ) → Ahead bs p [] → length bs ≤ p
ahead_end bs p a =
    let e : length bs - p ≡ 0 = sym (length-drop p bs) ∙ ap length (a.from ∙ nothing_left p a.rest [] a.divides refl) in
    omega arith

-- the walk takes the instructions of the list, a pair for two of them
data Taking (bs : List ℕ) : ℕ → List Placed → Type 0 where
  all : (p : ℕ) → length bs ≤ p → Taking bs p []
  two : (p : ℕ) (x y : Placed) (is : List Placed) → p < length bs → taken_at bs p ≡ Some (kind.Pair, 5) → x.address ≡ p → Leaves y.instruction → Taking bs (p + 5) is →
      Taking bs p (x ∷ (y ∷ is))
  one : (p n : ℕ) (k : Kind) (x : Placed) (is : List Placed) → p < length bs → 1 ≤ n → taken_at bs p ≡ Some (k, n) → x.address ≡ p →
      target_at bs p ≡ target (length x.bytes) x.address x.instruction → Taking bs (p + n) is → Taking bs p (x ∷ is)

record TakenOne (bs : List ℕ) (p n : ℕ) (i : Instruction) : Type 0 where
  what : Kind
  taken : taken_at bs p ≡ Some (what, n)
  goes : target_at bs p ≡ target n p i

taken_one : (bs : List ℕ) (p n : ℕ) (i : Instruction) → Permitted i → (Leaves i → ⊥) → decoded_at bs p ≡ Some (instruction_of i n) → pair_at bs p ≡ None → TakenOne bs p n i
taken_one bs p n (Straight i) m l d e =
    let t = straight_taken bs p n (sym (ap of_pair e)) (sym (ap of_straight d)) in
    record { what = kind.Straight; taken = t; goes = target_of_straight bs p n t }
taken_one bs p n (Direct i) m l d e =
    let t = direct_taken bs p n (sym (ap of_pair e)) (sym (ap of_straight d)) (sym (ap of_direct d)) in
    record { what = kind.Direct; taken = t; goes = target_of_direct bs p n t ∙ ap (λ o. target_in o p) d }
taken_one bs p n (Loose i) m l d e = absurd (l m)

take_one : (bs : List ℕ) (p : ℕ) (x : Placed) (is : List Placed) → Ahead bs p (x ∷ is) → Plain (x ∷ is) → pair_at bs p ≡ None → Taking bs (p + length x.bytes) is → Taking bs p (x ∷ is)
take_one bs p x is a l e t =
    let s = ahead_split bs p x is a in
    let d = every_encoding bs p x.instruction x.bytes s.after s.encodes (ahead_bytes bs p x is a) in
    let w = taken_one bs p (length x.bytes) x.instruction (a.permitted x (here x is)) l d e in
    let i = ahead_inside bs p x is a in
    one p (length x.bytes) w.what x is (omega (arith, i.0, i.1)) i.0 w.taken s.stands
    (w.goes ∙ ap (λ (q : ℕ). target (length x.bytes) q x.instruction) (sym s.stands)) t

-- where no pair stands, the second is no jump or call through a register
no_pair : (bs : List ℕ) (p : ℕ) (x y : Placed) (is : List Placed) → Ahead bs p (x ∷ (y ∷ is)) → pair_at bs p ≡ None → Plain (y ∷ is)
no_pair bs p x y is a e l =
    let g = ahead_guard bs p x y is a l in
    let s = ahead_split bs p x (y ∷ is) a in
    let u = split_first (p + length x.bytes) s.after (y ∷ is) s.divides y is refl in
    let n : ℕ = g.number in
    let t : Transfer = g.transfer in
    let j : s.after ≡ leave t n ++ u.after = u.joins ∙ ap (λ (e : List ℕ). e ++ u.after) g.leaves in
    let k : drop p bs ≡ mask n ++ s.after = ahead_bytes bs p x (y ∷ is) a ∙ ap (λ (e : List ℕ). e ++ s.after) g.masks in
    let f = every_pair bs p (pair_of (register_of n) t) (mask n ++ leave t n) u.after (paired n t g.small g.other) (k ∙ ap (λ (r : List ℕ). mask n ++ r) j) in
    let z : ◌≡◌ {A = ℕ} 0 1 = cc in
    omega arith

-- the first is the mask of a pair, and the rest begins with the jump or call
record Halved (x : Placed) (after tail : List ℕ) : Type 0 where
  number : ℕ
  transfer : Transfer
  masks : x.bytes ≡ mask number
  rests : after ≡ leave transfer number ++ tail
  leaves : Encodes (Loose (leave_of transfer (register_of number))) (leave transfer number)

halved : (q : Pair) (w : List ℕ) → Pairs q w → (x : Placed) (after tail : List ℕ) → Encodes x.instruction x.bytes → x.bytes ++ after ≡ w ++ tail → Halved x after tail
halved _ _ (paired n t h h4) x after tail s e =
    let v = halves (pair_of (register_of n) t) (mask n ++ leave t n) (paired n t h h4) in
    let u = unambiguous x.instruction (Straight (mask_of (register_of n))) x.bytes (mask n) after (leave t n ++ tail) s v.0 e in
    let k : mask n ++ after ≡ mask n ++ (leave t n ++ tail) = subst (λ (b : List ℕ). b ++ after ≡ mask n ++ (leave t n ++ tail)) u.0 e in
    record { number = n; transfer = t; masks = u.0; rests = ap (drop 3) k; leaves = v.1 }

ahead_halved : (bs : List ℕ) (p : ℕ) (x : Placed) (is : List Placed) (q : Pair) → (a : Ahead bs p (x ∷ is)) → pair_at bs p ≡ Some q →
    Halved x (ahead_split bs p x is a).after (drop 5 (drop p bs))
ahead_halved bs p x is q a e =
    let s = ahead_split bs p x is a in
    halved q (take 5 (drop p bs)) (only_pairs bs p q e) x s.after (drop 5 (drop p bs)) s.encodes
    (sym (ahead_bytes bs p x is a) ∙ sym (take-append-drop 5 (drop p bs)))

leave_leaves : (t : Transfer) (r : Register) → Leaves (Loose (leave_of t r))
leave_leaves Jump r = tt
leave_leaves Call r = tt

-- what follows one that masks no register is no jump or call through a register
plain_behind : (bs : List ℕ) (p : ℕ) (y : Placed) (is : List Placed) → Ahead bs p (y ∷ is) → ((m : ℕ) → y.bytes ≡ mask m → ⊥) → Plain is
plain_behind bs p y [] a f = tt
plain_behind bs p y (z ∷ is) a f = λ l. let g = ahead_guard bs p y z is a l in f g.number g.masks

take_two : (bs : List ℕ) (p : ℕ) (x y : Placed) (is : List Placed) (q : Pair) → Ahead bs p (x ∷ (y ∷ is)) → pair_at bs p ≡ Some q → ((r : ℕ) → Ahead bs r is → Plain is → Taking bs r is) → Taking bs p (x ∷ (y ∷ is))
take_two bs p x y is q a e f =
    let s = ahead_split bs p x (y ∷ is) a in
    let h = ahead_halved bs p x (y ∷ is) q a e in
    let n : ℕ = h.number in
    let t : Transfer = h.transfer in
    let b = ahead_next bs p x (y ∷ is) a in
    let u = split_first (p + length x.bytes) s.after (y ∷ is) s.divides y is refl in
    let v = unambiguous y.instruction (Loose (leave_of t (register_of n))) y.bytes (leave t n) u.after (drop 5 (drop p bs)) u.encodes h.leaves (sym u.joins ∙ h.rests) in
    let c = ahead_next bs (p + length x.bytes) y is b in
    let i = ahead_inside bs p x (y ∷ is) a in
    let lx : length x.bytes ≡ 3 = ap length h.masks in
    let ly : length y.bytes ≡ 2 = ap length v.0 in
    let five : p + length x.bytes + length y.bytes ≡ p + 5 = omega arith in
    two p x y is (omega (arith, i.0, i.1)) (pair_taken bs p 5 (sym (ap of_pair e))) s.stands
    (subst (λ (i : Instruction). Leaves i) (sym v.1) (leave_leaves t (register_of n)))
    (f (p + 5) (subst (λ (r : ℕ). Ahead bs r is) five c) (plain_behind bs (p + length x.bytes) y is b (λ m k. let z : length y.bytes ≡ 3 = ap length k in omega arith)))

-- a pair does not stand at the last instruction
no_last : (bs : List ℕ) (p : ℕ) (x : Placed) (q : Pair) → Ahead bs p (x ∷ []) → pair_at bs p ≡ Some q → ⊥
no_last bs p x q a e =
    let s = ahead_split bs p x [] a in
    let h = ahead_halved bs p x [] q a e in
    let k : s.after ≡ [] = nothing_left (p + length x.bytes) s.after [] s.divides refl in
    let l : 0 ≡ suc (suc (length (drop 5 (drop p bs)))) = ap length (sym k ∙ h.rests) in
    omega arith

take_last : (bs : List ℕ) (p : ℕ) (x : Placed) (o : Option Pair) → Ahead bs p (x ∷ []) → Plain (x ∷ []) → pair_at bs p ≡ o → Taking bs p (x ∷ [])
take_last bs p x None a l e = take_one bs p x [] a l e (all (p + length x.bytes) (ahead_end bs (p + length x.bytes) (ahead_next bs p x [] a)))
take_last bs p x (Some q) a l e = absurd (no_last bs p x q a e)

take_first : (bs : List ℕ) (p : ℕ) (x y : Placed) (is : List Placed) (o : Option Pair) → Ahead bs p (x ∷ (y ∷ is)) → Plain (x ∷ (y ∷ is)) → pair_at bs p ≡ o →
    ((r : ℕ) → Ahead bs r (y ∷ is) → Plain (y ∷ is) → Taking bs r (y ∷ is)) → ((r : ℕ) → Ahead bs r is → Plain is → Taking bs r is) → Taking bs p (x ∷ (y ∷ is))
take_first bs p x y is None a l e f g =
    take_one bs p x (y ∷ is) a l e (f (p + length x.bytes) (ahead_next bs p x (y ∷ is) a) (no_pair bs p x y is a e))
take_first bs p x y is (Some q) a l e f g = take_two bs p x y is q a e g

-- from a list on, and from one instruction before it
takes : (bs : List ℕ) (is : List Placed) → ((p : ℕ) → Ahead bs p is → Plain is → Taking bs p is) × ((x : Placed) (p : ℕ) → Ahead bs p (x ∷ is) → Plain (x ∷ is) → Taking bs p (x ∷ is))
takes bs [] = (λ p a l. all p (ahead_end bs p a), λ x p a l. take_last bs p x (pair_at bs p) a l refl)
takes bs (y ∷ is) =
    let r = takes bs is in
    (λ p a l. r.1 y p a l, λ x p a l. take_first bs p x y is (pair_at bs p) a l refl (λ q b m. r.1 y q b m) (λ q b m. r.0 q b m))

-- the walk starts at no jump or call through a register
meets_plain : (rest : List ℕ) (is : List Placed) → Divides 0 rest is → ((y : Placed) → Among y is → Leaves y.instruction → Guarded is y) → Plain is
meets_plain rest [] d g = tt
meets_plain rest (x ∷ is) d g =
    λ l.
    let w = g x (here x is) l in
    not_again 0 rest x is d (adjacent_behind w.guard x (x ∷ is) w.before x is refl)

meets_watched : (is : List Placed) → ((y : Placed) → Among y is → Leaves y.instruction → Guarded is y) → Watched is
meets_watched [] g = tt
meets_watched (x ∷ is) g = λ y h l. g y (there y x is h) l

meets_taking : (image : List ℕ) (row : EntryRow) → (m : Meets image row) → Taking image 0 m.instructions
meets_taking image row m =
    (takes image m.instructions).0 0
    (record { rest = image; from = refl; divides = m.divides; permitted = m.permitted; watched = meets_watched m.instructions m.guarded })
    (meets_plain image m.instructions m.divides m.guarded)

or_left : (a b : Bool) → a ≡ true → (a || b) ≡ true
or_left true b e = refl
or_left false b e = let z : ◌≡◌ {A = ℕ} 0 1 = cc in absurd (omega arith)

or_right : (a b : Bool) → b ≡ true → (a || b) ≡ true
or_right true b e = refl
or_right false b e = e

or_parts : (a b : Bool) → (a || b) ≡ true → (a ≡ true) ⊎ (b ≡ true)
or_parts true b e = inl refl
or_parts false b e = inr e

one_less : (n p turns : ℕ) → p < n → n ≤ p + turns → turns ≡ suc (turns - 1)
one_less n p turns h l = omega arith

start_here : (bs : List ℕ) (p turns a : ℕ) (k : Kind × ℕ) → p < length bs → length bs ≤ p + turns → taken_at bs p ≡ Some k → p ≡ a → some_taken turns bs (λ q. eqb q a) p ≡ true
start_here bs p turns a k h l t e =
    some_taken_on turns (turns - 1) bs (λ q. eqb q a) p k (one_less (length bs) p turns h l) h t
    ∙ or_left (eqb p a) (some_taken (turns - 1) bs (λ q. eqb q a) (p + k.1)) (eq-eqb p a e)

start_later : (bs : List ℕ) (p turns a : ℕ) (k : Kind × ℕ) → p < length bs → length bs ≤ p + turns → taken_at bs p ≡ Some k → some_taken (turns - 1) bs (λ q. eqb q a) (p + k.1) ≡ true →
    some_taken turns bs (λ q. eqb q a) p ≡ true
start_later bs p turns a k h l t e =
    some_taken_on turns (turns - 1) bs (λ q. eqb q a) p k (one_less (length bs) p turns h l) h t
    ∙ or_right (eqb p a) (some_taken (turns - 1) bs (λ q. eqb q a) (p + k.1)) e

start_by : (bs : List ℕ) (p turns : ℕ) (k : Kind × ℕ) (x z : Placed) (is : List Placed) → p < length bs → length bs ≤ p + turns → taken_at bs p ≡ Some k → x.address ≡ p → (z ≡ x) ⊎ Among z is →
    (Among z is → some_taken (turns - 1) bs (λ q. eqb q z.address) (p + k.1) ≡ true) → some_taken turns bs (λ q. eqb q z.address) p ≡ true
start_by bs p turns k x z is h l t e (inl s) f = start_here bs p turns z.address k h l t (sym e ∙ ap (λ (x : Placed). x.address) (sym s))
start_by bs p turns k x z is h l t e (inr s) f = start_later bs p turns z.address k h l t (f s)

start_past : (bs : List ℕ) (turns q : ℕ) (y z : Placed) (is : List Placed) → Leaves y.instruction → (Leaves z.instruction → ⊥) → (z ≡ y) ⊎ Among z is →
    (Among z is → some_taken turns bs (λ q. eqb q z.address) q ≡ true) → some_taken turns bs (λ q. eqb q z.address) q ≡ true
start_past bs turns q y z is v n (inl s) f = absurd (n (subst (λ (y : Placed). Leaves y.instruction) (sym s) v))
start_past bs turns q y z is v n (inr s) f = f s

-- the walk takes something at each that is no jump or call through a register
taking_starts : (bs : List ℕ) (p : ℕ) (is : List Placed) → Taking bs p is → (z : Placed) → Among z is → (Leaves z.instruction → ⊥) → (turns : ℕ) → length bs ≤ p + turns →
    some_taken turns bs (λ q. eqb q z.address) p ≡ true
taking_starts bs _ _ (all p e) z h n turns l = absurd (among_none z [] h refl)
taking_starts bs _ _ (two p x y is i t s v d) z h n turns l =
    start_by bs p turns (kind.Pair, 5) x z (y ∷ is) i l t s (among_split z (x ∷ (y ∷ is)) h x (y ∷ is) refl)
    (λ k. start_past bs (turns - 1) (p + 5) y z is v n (among_split z (y ∷ is) k y is refl) (λ k. taking_starts bs (p + 5) is d z k n (turns - 1) (omega arith)))
taking_starts bs _ _ (one p m w x is i o t s g d) z h n turns l =
    start_by bs p turns (w, m) x z is i l t s (among_split z (x ∷ is) h x is refl) (λ k. taking_starts bs (p + m) is d z k n (turns - 1) (omega arith))

-- one of these goes to a
record Aims (is : List Placed) (a : ℕ) : Type 0 where
  source : Placed
  listed : Among source is
  goes : target (length source.bytes) source.address source.instruction ≡ Some a

aims_later : (y : Placed) (is : List Placed) (a : ℕ) → Aims is a → Aims (y ∷ is) a
aims_later y is a w = record { source = w.source; listed = there w.source y is w.listed; goes = w.goes }

equal_target : (a : ℕ) (o : Option ℕ) → equals a o ≡ true → o ≡ Some a
equal_target a None e = let z : ◌≡◌ {A = ℕ} 0 1 = cc in absurd (omega arith)
equal_target a (Some t) e = ap (λ (t : ℕ). Some t) (eqb-true t a e)

abbrev goes_to : List ℕ → ℕ → ℕ → Bool
goes_to bs a q = equals a (target_at bs q)

target_split : (bs : List ℕ) (p turns a : ℕ) (k : Kind × ℕ) → p < length bs → length bs ≤ p + turns → taken_at bs p ≡ Some k → some_taken turns bs (goes_to bs a) p ≡ true →
    (target_at bs p ≡ Some a) ⊎ (some_taken (turns - 1) bs (goes_to bs a) (p + k.1) ≡ true)
target_split bs p turns a k h l t e =
    elim (or_parts (goes_to bs a p) (some_taken (turns - 1) bs (goes_to bs a) (p + k.1)) (sym (some_taken_on turns (turns - 1) bs (goes_to bs a) p k (one_less (length bs) p turns h l) h t) ∙ e))
    [ inl c ↦ inl (equal_target a (target_at bs p) c) | inr c ↦ inr c ]

aims_by : (bs : List ℕ) (p a : ℕ) (x : Placed) (is : List Placed) (c : Bool) → target_at bs p ≡ target (length x.bytes) x.address x.instruction →
    (target_at bs p ≡ Some a) ⊎ (c ≡ true) → (c ≡ true → Aims is a) → Aims (x ∷ is) a
aims_by bs p a x is c g (inl e) f = record { source = x; listed = here x is; goes = sym g ∙ e }
aims_by bs p a x is c g (inr e) f = aims_later x is a (f e)

aims_past : (bs : List ℕ) (p a : ℕ) (is : List Placed) (c : Bool) → target_at bs p ≡ None → (target_at bs p ≡ Some a) ⊎ (c ≡ true) → (c ≡ true → Aims is a) → Aims is a
aims_past bs p a is c g (inl e) f = let z : ◌≡◌ {A = ℕ} 0 1 = cc in absurd (omega arith)
aims_past bs p a is c g (inr e) f = f e

-- a direct form that the walk takes is one of these
taking_targets : (bs : List ℕ) (p : ℕ) (is : List Placed) → Taking bs p is → (a turns : ℕ) → length bs ≤ p + turns → some_taken turns bs (goes_to bs a) p ≡ true → Aims is a
taking_targets bs _ _ (all p e) a turns l h =
    let f = some_taken_ends turns bs (goes_to bs a) p e in
    let z : ◌≡◌ {A = ℕ} 0 1 = cc in
    absurd (omega arith)
taking_targets bs _ _ (two p x y is i t s v d) a turns l h =
    aims_later x (y ∷ is) a (aims_later y is a (
    aims_past bs p a is (some_taken (turns - 1) bs (goes_to bs a) (p + 5)) (target_of_pair bs p 5 t) (target_split bs p turns a (kind.Pair, 5) i l t h)
    (λ k. taking_targets bs (p + 5) is d a (turns - 1) (omega arith) k)
    ))
taking_targets bs _ _ (one p m w x is i o t s g d) a turns l h =
    aims_by bs p a x is (some_taken (turns - 1) bs (goes_to bs a) (p + m)) g (target_split bs p turns a (w, m) i l t h) (λ k. taking_targets bs (p + m) is d a (turns - 1) (omega arith) k)

entry_not_far : (s c : Bool) (r : Refusal) → c ≡ true → cond s None (cond c None (Some r)) ≡ None
entry_not_far true c r e = refl
entry_not_far false c r e = cond-true c None (Some r) e

not_far : (n : ℕ) (row : EntryRow) (p t : ℕ) → (t < n) ⊎ (is_entry row t ≡ true) → far_from n row p (Some t) ≡ None
not_far n row p t (inl h) = cond-true (ltb t n) None (cond (is_entry row t) None (Some (FarTarget p))) (lt-ltb t n h)
not_far n row p t (inr h) = entry_not_far (ltb t n) (is_entry row t) (FarTarget p) h

near : (n : ℕ) (row : EntryRow) (p : ℕ) (o : Option ℕ) → ((t : ℕ) → o ≡ Some t → (t < n) ⊎ (is_entry row t ≡ true)) → far_from n row p o ≡ None
near n row p None f = refl
near n row p (Some t) f = not_far n row p t (f t refl)

-- where each of these goes to is in an image of n bytes or an entry
abbrev Near : ℕ → EntryRow → List Placed → Type 0
Near n row is =
    (x : Placed) → Among x is → (t : ℕ) → target (length x.bytes) x.address x.instruction ≡ Some t → (t < n) ⊎ (is_entry row t ≡ true)

goes_on : (bs : List ℕ) (row : EntryRow) (p turns : ℕ) (k : Kind × ℕ) → p < length bs → length bs ≤ p + turns → taken_at bs p ≡ Some k → far_from (length bs) row p (target_at bs p) ≡ None →
    stop_from (turns - 1) bs row (p + k.1) ≡ None → stop_from turns bs row p ≡ None
goes_on bs row p turns k h l t e f =
    stop_on turns (turns - 1) bs row p k (one_less (length bs) p turns h l) h t
    ∙ ap (λ (o : Option Refusal). option_or o (stop_from (turns - 1) bs row (p + k.1))) e ∙ f

taking_goes_on : (bs : List ℕ) (row : EntryRow) (p : ℕ) (is : List Placed) → Taking bs p is → Near (length bs) row is → (turns : ℕ) → length bs ≤ p + turns → stop_from turns bs row p ≡ None
taking_goes_on bs row _ _ (all p e) n turns l = stop_ends turns bs row p e
taking_goes_on bs row _ _ (two p x y is i t s v d) n turns l =
    goes_on bs row p turns (kind.Pair, 5) i l t (ap (far_from (length bs) row p) (target_of_pair bs p 5 t))
    (taking_goes_on bs row (p + 5) is d (λ z h. n z (there z x (y ∷ is) (there z y is h))) (turns - 1) (omega arith))
taking_goes_on bs row _ _ (one p m w x is i o t s g d) n turns l =
    goes_on bs row p turns (w, m) i l t (near (length bs) row p (target_at bs p) (λ a e. n x (here x is) a (sym g ∙ e)))
    (taking_goes_on bs row (p + m) is d (λ z h. n z (there z x is h)) (turns - 1) (omega arith))

none_first : {A : Type 0} (f : ℕ → Option A) (n : ℕ) → ((i : ℕ) → i < n → f i ≡ None) → verdicts.first f n ≡ None
unfolding verdicts.first
none_first f zero h = refl
none_first f (suc n) h =
    ap (λ o. option_or o (verdicts.first (λ i. f (suc i)) n)) (h 0 (omega arith)) ∙ none_first (λ i. f (suc i)) n (λ i k. h (suc i) (omega arith))

not_wrong : (s e t : Bool) (q r : Refusal) → (e ≡ true → s ≡ true) → (t ≡ true → s ≡ true) → cond s None (cond e (Some q) (cond t (Some r) None)) ≡ None
not_wrong true e t q r f g = refl
not_wrong false true t q r f g = let h = f refl in let z : ◌≡◌ {A = ℕ} 0 1 = cc in absurd (omega arith)
not_wrong false false true q r f g = let h = g refl in let z : ◌≡◌ {A = ℕ} 0 1 = cc in absurd (omega arith)
not_wrong false false false q r f g = refl

-- its guard would lie in the block before
not_on_block : (is : List Placed) (rest : List ℕ) (y : Placed) → Divides 0 rest is → Guarded is y → y.address % 32 ≡ 0 → ⊥
not_on_block is rest y d g e =
    let t = touches 0 rest is d g.guard y g.before in
    let l : length g.guard.bytes ≡ 3 = ap length g.guards.masks in
    let b = g.guards.block in
    omega arith

-- an image that meets the policy: where the walk starts, and that nothing refuses it
module _ (image : List ℕ) (row : EntryRow) (m : Meets image row) where
  starts_at_lem : (z : Placed) (a : ℕ) → Among z m.instructions → z.address ≡ a → (Leaves z.instruction → ⊥) → is_start image a ≡ true
  starts_at_lem z a h e n =
      subst (λ (a : ℕ). is_start image a ≡ true) e (taking_starts image 0 m.instructions (meets_taking image row m) z h n (length image) (omega arith))

  block_by : (a : ℕ) → a % 32 ≡ 0 → (s : Standing m.instructions a) → Leaves s.instruction.instruction ⊎ (Leaves s.instruction.instruction → ⊥) → is_start image a ≡ true
  block_by a e s (inl l) =
      absurd (not_on_block m.instructions image s.instruction m.divides (m.guarded s.instruction s.listed l) (ap (λ (a : ℕ). a % 32) s.stands ∙ e))
  block_by a e s (inr n) = starts_at_lem s.instruction a s.listed s.stands n

  block_starts : (a : ℕ) → a < length image → eqb (a % 32) 0 ≡ true → is_start image a ≡ true
  block_starts a h e =
      let z : a % 32 ≡ 0 = eqb-true (a % 32) 0 e in
      let s = m.aligned a h z in
      block_by a z s (leaves_or_not s.instruction.instruction)

  near_by : (t : ℕ) → Lands m.instructions t ⊎ (is_entry row t ≡ true) → (t < length image) ⊎ (is_entry row t ≡ true)
  near_by t (inl w) =
      let b = (between 0 image m.instructions m.divides w.instruction w.listed).1 in
      let s = w.stands in
      inl (omega arith)
  near_by t (inr e) = inr e

  stays : stopped image row ≡ None
  stays =
      taking_goes_on image row 0 m.instructions (meets_taking image row m) (λ x h t e. near_by t (tested row m.instructions t (m.landing x h t e))) (length image) (omega arith)

  entry_behind : (a : ℕ) → row_fits row (length image) ≡ true → a < length image → is_entry row a ≡ true → ⊥
  entry_behind a f h e =
      let b = leb-true row.base a (and_parts (leb row.base a) _ e).0 in
      let r = (and_parts (leb row.count 64) _ f).1 in
      let l = leb-true (length image) row.base (and_parts (leb (length image) row.base) _ r).0 in
      omega arith

  landed : (a : ℕ) → row_fits row (length image) ≡ true → a < length image → Lands m.instructions a ⊎ (is_entry row a ≡ true) → is_start image a ≡ true
  landed a f h (inl w) = starts_at_lem w.instruction a w.listed w.stands w.plain
  landed a f h (inr e) = absurd (entry_behind a f h e)

  target_starts : (a : ℕ) → row_fits row (length image) ≡ true → a < length image → is_target image a ≡ true → is_start image a ≡ true
  target_starts a f h e =
      let w = taking_targets image 0 m.instructions (meets_taking image row m) a (length image) (omega arith) e in
      landed a f h (tested row m.instructions a (m.landing w.source w.listed a w.goes))

  placed_well : row_fits row (length image) ≡ true → misplaced (is_start image) (is_target image) (length image) ≡ None
  placed_well f =
      none_first (wrong_at (is_start image) (is_target image)) (length image) (λ a h. not_wrong (is_start image a) (eqb (a % 32) 0) (is_target image a) (Unaligned a) (MidTarget a) (block_starts a h) (target_starts a f h))

pub admits : (image : List ℕ) (row : EntryRow) → row_fits row (length image) ≡ true → Meets image row → found image row ≡ None
admits image row f m =
    ap (λ (o : Option Refusal). option_or o (misplaced (is_start image) (is_target image) (length image))) (stays image row m) ∙ placed_well image row m f
