-- An image that nothing is found wrong with meets the policy.
use Rattle.std.proofs.Common.{◌≡◌, ℕ, zero, suc, ◌+◌, ◌*◌, ◌/◌, ◌%◌, ◌<◌, ◌≤◌, Bool, true, false, cond, ◌||◌, eqb, ltb, ◌⊎◌, List, [], ◌∷◌, length, take, drop, Some, None, Option, sym, refl, ap, ◌∙◌, subst, inl, inr, arith, length-drop}
use Rattle.std.proofs.lemmas.List.{take-append-drop, drop-drop, drop_all, drop-take, take-take, length-take-le}
use Rattle.std.proofs.lemmas.Bool.{eq-eqb, eqb-true, lt-ltb, ltb-true, ltb-false, or_cases, or_left, or_right, cases_lt, cond-true, true≢false, false≢true}
use Rattle.std.specs.Option.{option_or}
use Rattle.x86.specs.declared.instructions.Straight.{Straight as StraightForm}
use Rattle.x86.specs.declared.instructions.Direct.{Direct as DirectForm}
use Rattle.x86.specs.declared.instructions.Instruction.{Instruction}
use Rattle.x86.specs.declared.instructions.Instruction.TheVariants.{Straight, Direct, Loose}
use Rattle.x86.specs.declared.instructions.Decoded.{Decoded}
use Rattle.x86.specs.declared.registers.Register.{Register}
use Rattle.x86.specs.declared.pairs.Transfer.{Transfer}
use Rattle.x86.specs.declared.pairs.Transfer.TheVariants as transfer
use Rattle.x86.specs.declared.pairs.Pair.{Pair}
use Rattle.x86.specs.Decoded.{decoded_at}
use Rattle.x86.specs.Grammar.{Encodes}
use Rattle.x86.specs.Instructions.{target}
use Rattle.x86.specs.Laws.{Inside, Pairs, paired, mask, leave}
use Rattle.x86.specs.Octets.{Octets}
use Rattle.x86.specs.Pairs.{pair_at, mask_of, leave_of}
use Rattle.x86.proofs.Meets.{only_encodings, decoded_inside}
use Rattle.x86.proofs.Paired.{only_pairs}
use Rattle.x86.proofs.Unambiguous.{halves}
use Rattle.automata.specs.Lengths.{of_pair, of_straight, if_straight, of_direct, if_direct, target_in}
use Rattle.automata.proofs.Agrees.{pair_inside}
use Rattle.gate.specs.declared.elements.Kind.{Kind}
use Rattle.gate.specs.declared.elements.Kind.TheVariants as kind
use Rattle.gate.specs.declared.entries.EntryRow.{EntryRow}
use Rattle.gate.specs.declared.refusals.Refusal.{Refusal}
use Rattle.gate.specs.declared.refusals.Refusal.TheVariants.{NoMatch, FarTarget, Unaligned, MidTarget}
use Rattle.gate.specs.Elements.{kinded, taken_at, target_at}
use Rattle.gate.specs.Entries.{is_entry}
use Rattle.gate.proofs.Entered.{told}
use Rattle.gate.specs.Walks.{if_taken, some_taken, is_start, is_target, equals, far_from, stop_from, stopped}
use Rattle.gate.specs.Verdicts.{wrong_at, first, misplaced, found}
use Rattle.gate.specs.Policy.{Placed, placed, Divides, done, next, Among, here, there, further, Leaves, LeavesLoose, Permitted, Guards, Lands, Guarded, Meets}
use Rattle.gate.specs.Policy as policy
use Rattle.gate.proofs.Taken.{target_of_straight, target_of_direct}
use Rattle.gate.proofs.Turns.{some_taken_on, some_taken_ends, stop_on, stop_none}

-- what is taken, by what stands there
pub data What (bs : List ℕ) (p : ℕ) : Kind × ℕ → Type 0 where
  as_pair : (x : Pair) → pair_at bs p ≡ Some x → What bs p (kind.Pair, 5)
  as_straight : (d : Decoded) (i : StraightForm) → decoded_at bs p ≡ Some d → d.instruction ≡ Straight i → What bs p (kind.Straight, d.length)
  as_direct : (d : Decoded) (i : DirectForm) → decoded_at bs p ≡ Some d → d.instruction ≡ Direct i → What bs p (kind.Direct, d.length)

what_decoded : (bs : List ℕ) (p : ℕ) (d : Decoded) (i : Instruction) (x : Kind × ℕ) → decoded_at bs p ≡ Some d → d.instruction ≡ i →
    option_or (kinded kind.Straight (if_straight d.length i)) (kinded kind.Direct (if_direct d.length i)) ≡ Some x → What bs p x
what_decoded bs p d (Straight i) x f g h = let z : (kind.Straight, d.length) ≡ x = cc in subst (λ (x : Kind × ℕ). What bs p x) z (as_straight d i f g)
what_decoded bs p d (Direct i) x f g h = let z : (kind.Direct, d.length) ≡ x = cc in subst (λ (x : Kind × ℕ). What bs p x) z (as_direct d i f g)
what_decoded bs p d (Loose i) x f g h = let z : ◌≡◌ {A = ℕ} 0 1 = cc in absurd (omega arith)

what_by : (bs : List ℕ) (p : ℕ) (a : Option Pair) (b : Option Decoded) (x : Kind × ℕ) → pair_at bs p ≡ a → decoded_at bs p ≡ b →
    option_or (kinded kind.Pair (of_pair a)) (option_or (kinded kind.Straight (of_straight b)) (kinded kind.Direct (of_direct b))) ≡ Some x → What bs p x
what_by bs p (Some y) b x e f h = let z : (kind.Pair, 5) ≡ x = cc in subst (λ (x : Kind × ℕ). What bs p x) z (as_pair y e)
what_by bs p None None x e f h = let z : ◌≡◌ {A = ℕ} 0 1 = cc in absurd (omega arith)
what_by bs p None (Some d) x e f h = what_decoded bs p d d.instruction x f refl h

what : (bs : List ℕ) (p : ℕ) (x : Kind × ℕ) → taken_at bs p ≡ Some x → What bs p x
unfolding taken_at
what bs p x h = what_by bs p (pair_at bs p) (decoded_at bs p) x refl refl h

-- the bytes of a pair
pub record Halved (e : List ℕ) : Type 0 where
  pub number : ℕ
  pub transfer : Transfer
  pub small : number < 8
  pub other : number ≡ 4 → ⊥
  pub before : take 3 e ≡ mask number
  pub behind : drop 3 e ≡ leave transfer number

halved : (x : Pair) (e : List ℕ) → Pairs x e → Halved e
halved _ _ (paired n t h h4) = record { number = n; transfer = t; small = h; other = h4; before = refl; behind = refl }

leaves_loose : (t : Transfer) (r : Register) → LeavesLoose (leave_of t r)
leaves_loose transfer.Jump r = tt
leaves_loose transfer.Call r = tt

-- lists of placed instructions
among_cases : (x y : Placed) (is : List Placed) → Among x (y ∷ is) → (x ≡ y) ⊎ Among x is
among_cases _ _ _ (here x is) = inl refl
among_cases _ _ _ (there x y is m) = inr m

all_on : (P : Placed → Type 0) (y : Placed) (is : List Placed) → P y → ((x : Placed) → Among x is → P x) → (x : Placed) → Among x (y ∷ is) → P x
all_on P y is h f x m = elim (among_cases x y is m) [ inl e ↦ subst P (sym e) h | inr k ↦ f x k ]

among_none : {P : Type 0} (x : Placed) (is : List Placed) → is ≡ [] → Among x is → P
among_none x _ e (here _ is) = let z : ◌≡◌ {A = ℕ} 0 1 = cc in absurd (omega arith)
among_none x _ e (there _ y is m) = let z : ◌≡◌ {A = ℕ} 0 1 = cc in absurd (omega arith)

lands_there : (y : Placed) (is : List Placed) (a : ℕ) → Lands is a → Lands (y ∷ is) a
lands_there y is a l = record { instruction = l.instruction; listed = there l.instruction y is l.listed; stands = l.stands; plain = l.plain }

guarded_further : (z : Placed) (is : List Placed) (y : Placed) → Guarded is y → Guarded (z ∷ is) y
guarded_further z is y g = record { guard = g.guard; before = further g.guard y z is g.before; guards = g.guards }

length_part : (bs : List ℕ) (p n : ℕ) → p + n ≤ length bs → length (take n (drop p bs)) ≡ n
length_part bs p n h = length-take-le n (drop p bs) (omega (arith, length-drop p bs))

-- one more instruction in front
divides_on : (bs : List ℕ) (p n : ℕ) (i : Instruction) (is : List Placed) → p + n ≤ length bs → Encodes i (take n (drop p bs)) → Divides (p + n) (drop (p + n) bs) is →
    Divides p (drop p bs) (placed p i (take n (drop p bs)) ∷ is)
divides_on bs p n i is h e d =
    let l : p + n ≡ p + length (take n (drop p bs)) = ap (λ (m : ℕ). p + m) (sym (length_part bs p n h)) in
    let d' : Divides (p + length (take n (drop p bs))) (drop n (drop p bs)) is =
    subst (λ (q : ℕ). Divides q (drop n (drop p bs)) is) l (subst (λ (xs : List ℕ). Divides (p + n) xs is) (sym (drop-drop n p bs)) d) in
    subst (λ (xs : List ℕ). Divides p xs (placed p i (take n (drop p bs)) ∷ is)) (take-append-drop n (drop p bs))
    (next p i (take n (drop p bs)) (drop n (drop p bs)) is e d')

-- a target in the image is one of the walk from p on
abbrev Aims : List ℕ → EntryRow → ℕ → ℕ → ℕ → Type 0
Aims bs row turns p t = ((t < length bs) × (some_taken turns bs (λ q. equals t (target_at bs q)) p ≡ true)) ⊎ (is_entry row t ≡ true)

-- what the walk from p on lays end to end
pub record Laid (bs : List ℕ) (row : EntryRow) (turns p : ℕ) : Type 0 where
  pub instructions : List Placed
  pub divides : Divides p (drop p bs) instructions
  pub permitted : (x : Placed) → Among x instructions → Permitted x.instruction
  pub guarded : (y : Placed) → Among y instructions → Leaves y.instruction → Guarded instructions y
  pub aims : (x : Placed) → Among x instructions → (t : ℕ) → target (length x.bytes) x.address x.instruction ≡ Some t → Aims bs row turns p t
  pub starts : (a : ℕ) → some_taken turns bs (λ q. eqb q a) p ≡ true → Lands instructions a

laid_ends : (bs : List ℕ) (row : EntryRow) (turns p : ℕ) → length bs ≤ p → Laid bs row turns p
laid_ends bs row turns p h = record {
  instructions = [];
  divides = subst (λ (xs : List ℕ). Divides p xs []) (sym (drop_all p bs h)) (done p);
  permitted = λ x m. among_none x [] refl m;
  guarded = λ y m _. among_none y [] refl m;
  aims = λ x m _ _. among_none x [] refl m;
  starts = λ a e. absurd (true≢false (sym e ∙ some_taken_ends turns bs (λ q. eqb q a) p h));
}

aims_on : (bs : List ℕ) (row : EntryRow) (turns p t : ℕ) (x : Kind × ℕ) → p < length bs → taken_at bs p ≡ Some x → Aims bs row turns (p + x.1) t → Aims bs row (suc turns) p t
aims_on bs row turns p t x h k (inl a) = inl (a.0, some_taken_on (suc turns) turns bs (λ q. equals t (target_at bs q)) p x refl h k ∙ or_right (equals t (target_at bs p)) _ a.1)
aims_on bs row turns p t x h k (inr a) = inr a

far_by : (row : EntryRow) (p t n : ℕ) (a b : Bool) → ltb t n ≡ a → is_entry row t ≡ b → cond a None (cond b None (Some (FarTarget p))) ≡ None → (t < n) ⊎ (is_entry row t ≡ true)
far_by row p t n true b e f h = inl (ltb-true t n e)
far_by row p t n false true e f h = inr f
far_by row p t n false false e f h = let z : ◌≡◌ {A = ℕ} 0 1 = cc in absurd (omega arith)

not_far : (row : EntryRow) (p t n : ℕ) → far_from n row p (Some t) ≡ None → (t < n) ⊎ (is_entry row t ≡ true)
not_far row p t n h = far_by row p t n (ltb t n) (is_entry row t) refl refl h

aims_here : (bs : List ℕ) (row : EntryRow) (turns p t : ℕ) (x : Kind × ℕ) → p < length bs → taken_at bs p ≡ Some x → target_at bs p ≡ Some t → (t < length bs) ⊎ (is_entry row t ≡ true) →
    Aims bs row (suc turns) p t
aims_here bs row turns p t x h k e (inl a) =
    inl (a, some_taken_on (suc turns) turns bs (λ q. equals t (target_at bs q)) p x refl h k ∙ or_left (equals t (target_at bs p)) _ (ap (equals t) e ∙ eq-eqb t t refl))
aims_here bs row turns p t x h k e (inr a) = inr a

-- a start of the walk over one more element is its own or a later one
starts_cases : (bs : List ℕ) (turns p a : ℕ) (x : Kind × ℕ) → p < length bs → taken_at bs p ≡ Some x → some_taken (suc turns) bs (λ q. eqb q a) p ≡ true →
    (p ≡ a) ⊎ (some_taken turns bs (λ q. eqb q a) (p + x.1) ≡ true)
starts_cases bs turns p a x h k e =
    elim (or_cases (eqb p a) (some_taken turns bs (λ q. eqb q a) (p + x.1)) (sym (some_taken_on (suc turns) turns bs (λ q. eqb q a) p x refl h k) ∙ e))
    [ inl c ↦ inl (eqb-true p a c) | inr c ↦ inr c ]

-- a straight or a direct form in front
laid_one : (bs : List ℕ) (row : EntryRow) (turns p : ℕ) (x : Kind × ℕ) (i : Instruction) → p < length bs → p + x.1 ≤ length bs → taken_at bs p ≡ Some x →
    Encodes i (take x.1 (drop p bs)) → Permitted i → (Leaves i → ⊥) → target_at bs p ≡ target x.1 p i → far_from (length bs) row p (target_at bs p) ≡ None →
    Laid bs row turns (p + x.1) → Laid bs row (suc turns) p
laid_one bs row turns p x i h inside k e ok plain to far rest =
    let is : List Placed = rest.instructions in
    let y : Placed = placed p i (take x.1 (drop p bs)) in
    record {
      instructions = y ∷ is;
      divides = divides_on bs p x.1 i is inside e rest.divides;
      permitted = all_on (λ z. Permitted z.instruction) y is ok rest.permitted;
      guarded = all_on (λ z. Leaves z.instruction → Guarded (y ∷ is) z) y is (λ l. absurd (plain l)) (λ z m l. guarded_further y is z (rest.guarded z m l));
      aims = all_on (λ z. (t : ℕ) → target (length z.bytes) z.address z.instruction ≡ Some t → Aims bs row (suc turns) p t) y is
          (λ t g.
          let there : target_at bs p ≡ Some t = to ∙ ap (λ (n : ℕ). target n p i) (sym (length_part bs p x.1 inside)) ∙ g in
          aims_here bs row turns p t x h k there (not_far row p t (length bs) (sym (ap (far_from (length bs) row p) there) ∙ far)))
          (λ z m t g. aims_on bs row turns p t x h k (rest.aims z m t g));
      starts = λ a s. elim (starts_cases bs turns p a x h k s) [
        | inl c ↦ record { instruction = y; listed = here y is; stands = c; plain = plain }
        | inr c ↦ lands_there y is a (rest.starts a c)
      ];
    }

-- a pair in front
laid_pair : (bs : List ℕ) (row : EntryRow) (turns p : ℕ) (x : Pair) → p < length bs → p + 5 ≤ length bs → taken_at bs p ≡ Some (kind.Pair, 5) →
    Pairs x (take 5 (drop p bs)) → p / 32 ≡ (p + 4) / 32 → Laid bs row turns (p + 5) → Laid bs row (suc turns) p
laid_pair bs row turns p x h inside k e block rest =
    let is : List Placed = rest.instructions in
    let b : take 3 (take 5 (drop p bs)) ≡ take 3 (drop p bs) = take-take 3 5 (drop p bs) (omega arith) in
    let c : drop 3 (take 5 (drop p bs)) ≡ take 2 (drop (p + 3) bs) = drop-take 3 2 (drop p bs) ∙ ap (take 2) (drop-drop 3 p bs) in
    let w : Halved (take 5 (drop p bs)) = halved x (take 5 (drop p bs)) e in
    let i : Instruction = Straight (mask_of x.register) in
    let j : Instruction = Loose (leave_of x.transfer x.register) in
    let y : Placed = placed p i (take 3 (drop p bs)) in
    let z : Placed = placed (p + 3) j (take 2 (drop (p + 3) bs)) in
    let ei : Encodes i (take 3 (drop p bs)) = subst (λ (e : List ℕ). Encodes i e) b (halves x (take 5 (drop p bs)) e).0 in
    let ej : Encodes j (take 2 (drop (p + 3) bs)) = subst (λ (e : List ℕ). Encodes j e) c (halves x (take 5 (drop p bs)) e).1 in
    let d : Divides (p + 3 + 2) (drop (p + 3 + 2) bs) is = subst (λ (q : ℕ). Divides q (drop q bs) is) (omega arith) rest.divides in
    let guards : Guards y z = record {
      number = w.number;
      transfer = w.transfer;
      small = w.small;
      other = w.other;
      masks = sym b ∙ w.before;
      leaves = sym c ∙ w.behind;
      block = block ∙ ap (λ (q : ℕ). q / 32) (omega arith);
    } in
    record {
      instructions = y ∷ (z ∷ is);
      divides = divides_on bs p 3 i (z ∷ is) (omega arith) ei (divides_on bs (p + 3) 2 j is (omega arith) ej d);
      permitted = all_on (λ u. Permitted u.instruction) y (z ∷ is) tt (all_on (λ u. Permitted u.instruction) z is (leaves_loose x.transfer x.register) rest.permitted);
      guarded = all_on (λ u. Leaves u.instruction → Guarded (y ∷ (z ∷ is)) u) y (z ∷ is) (λ l. absurd l)
          (all_on (λ u. Leaves u.instruction → Guarded (y ∷ (z ∷ is)) u) z is (λ _. record { guard = y; before = policy.first y z is; guards = guards })
          (λ u m l. guarded_further y (z ∷ is) u (guarded_further z is u (rest.guarded u m l))));
      aims = all_on (λ u. (t : ℕ) → target (length u.bytes) u.address u.instruction ≡ Some t → Aims bs row (suc turns) p t) y (z ∷ is)
          (λ t g. let z : ◌≡◌ {A = ℕ} 0 1 = cc in absurd (omega arith))
          (all_on (λ u. (t : ℕ) → target (length u.bytes) u.address u.instruction ≡ Some t → Aims bs row (suc turns) p t) z is
          (λ t g. let z : ◌≡◌ {A = ℕ} 0 1 = cc in absurd (omega arith))
          (λ u m t g. aims_on bs row turns p t (kind.Pair, 5) h k (rest.aims u m t g)));
      starts = λ a s. elim (starts_cases bs turns p a (kind.Pair, 5) h k s) [
        | inl c ↦ record { instruction = y; listed = here y (z ∷ is); stands = c; plain = λ l. l }
        | inr c ↦ lands_there y (z ∷ is) a (lands_there z is a (rest.starts a c))
      ];
    }

-- every multiple of 32 from p on is a start of the walk from p on
abbrev Whole : List ℕ → ℕ → ℕ → Type 0
Whole bs turns p = (a : ℕ) → p ≤ a → a < length bs → a % 32 ≡ 0 → some_taken turns bs (λ q. eqb q a) p ≡ true

whole_on : (bs : List ℕ) (turns p : ℕ) (x : Kind × ℕ) → p < length bs → taken_at bs p ≡ Some x → 0 < x.1 → Whole bs (suc turns) p → Whole bs turns (p + x.1)
whole_on bs turns p x h k s w a l b m =
    elim (starts_cases bs turns p a x h k (w a (omega arith) b m)) [ inl c ↦ absurd (omega arith) | inr c ↦ c ]

none_start : (bs : List ℕ) (turns p a : ℕ) → p < length bs → taken_at bs p ≡ None → some_taken (suc turns) bs (λ q. eqb q a) p ≡ false
unfolding some_taken
none_start bs turns p a h k = cond-true _ _ _ (lt-ltb p (length bs) h) ∙ ap (λ o. if_taken o false (λ n. eqb p a || some_taken turns bs (λ q. eqb q a) (p + n))) k

later_by : (bs : List ℕ) (turns p a : ℕ) (t : Bool) (o : Option (Kind × ℕ)) → ltb p (length bs) ≡ t → taken_at bs p ≡ o →
    ((q : ℕ) → some_taken turns bs (λ q. eqb q a) q ≡ true → q ≤ a) → some_taken (suc turns) bs (λ q. eqb q a) p ≡ true → p ≤ a
later_by bs turns p a false o e k f s = absurd (true≢false (sym s ∙ some_taken_ends (suc turns) bs (λ q. eqb q a) p (ltb-false p (length bs) e)))
later_by bs turns p a true None e k f s = absurd (true≢false (sym s ∙ none_start bs turns p a (ltb-true p (length bs) e) k))
later_by bs turns p a true (Some x) e k f s =
    elim (starts_cases bs turns p a x (ltb-true p (length bs) e) k s) [ inl c ↦ omega arith | inr c ↦ omega (arith, f (p + x.1) c) ]

-- the walk only goes on
starts_later : (turns : ℕ) (bs : List ℕ) (a p : ℕ) → some_taken turns bs (λ q. eqb q a) p ≡ true → p ≤ a
unfolding some_taken
starts_later zero bs a p s = absurd (false≢true s)
starts_later (suc turns) bs a p s = later_by bs turns p a (ltb p (length bs)) (taken_at bs p) refl refl (λ q. starts_later turns bs a q) s

-- no multiple of 32 lies inside what is taken
not_inside : (bs : List ℕ) (turns p : ℕ) (x : Kind × ℕ) → p < length bs → taken_at bs p ≡ Some x → Whole bs (suc turns) p → (a : ℕ) → p < a → a < p + x.1 → a < length bs → a % 32 ≡ 0 → ⊥
not_inside bs turns p x h k w a l u b m =
    elim (starts_cases bs turns p a x h k (w a (omega arith) b m)) [ inl c ↦ omega arith | inr c ↦ omega (arith, starts_later turns bs a (p + x.1) c) ]

block_of : (bs : List ℕ) (turns p : ℕ) → p + 5 ≤ length bs → taken_at bs p ≡ Some (kind.Pair, 5) → Whole bs (suc turns) p → p / 32 ≡ (p + 4) / 32
block_of bs turns p h k w =
    elim (cases_lt (p % 32) 28) [
      | inl c ↦ omega arith
      | inr c ↦ absurd (not_inside bs turns p (kind.Pair, 5) (omega arith) k w (32 * (p / 32) + 32) (omega arith) (omega arith) (omega arith) (omega arith))
    ]

laid_what : (bs : List ℕ) (row : EntryRow) (turns p : ℕ) (x : Kind × ℕ) → What bs p x → Octets bs 0 (length bs) → p < length bs → taken_at bs p ≡ Some x →
    far_from (length bs) row p (target_at bs p) ≡ None → Whole bs (suc turns) p → (0 < x.1 → Laid bs row turns (p + x.1)) → Laid bs row (suc turns) p
laid_what bs row turns p _ (as_pair x e) o h k far w rest =
    let inside : p + 5 ≤ length bs = (pair_inside bs p 5 (ap of_pair e)).0.1 in
    laid_pair bs row turns p x h inside k (only_pairs bs p x e) (block_of bs turns p inside k w) (rest (omega arith))
laid_what bs row turns p _ (as_straight d i e g) o h k far w rest =
    let inside : Inside bs p d.length = (decoded_inside bs p d e).0 in
    laid_one bs row turns p (kind.Straight, d.length) (Straight i) h inside.1 k
    (subst (λ (i : Instruction). Encodes i (take d.length (drop p bs))) g (only_encodings bs p d (λ q _ u. o q (omega arith) (omega (arith, inside.1))) e))
    tt (λ l. l) (target_of_straight bs p d.length k) far (rest inside.0)
laid_what bs row turns p _ (as_direct d i e g) o h k far w rest =
    let inside : Inside bs p d.length = (decoded_inside bs p d e).0 in
    laid_one bs row turns p (kind.Direct, d.length) (Direct i) h inside.1 k
    (subst (λ (i : Instruction). Encodes i (take d.length (drop p bs))) g (only_encodings bs p d (λ q _ u. o q (omega arith) (omega (arith, inside.1))) e))
    tt (λ l. l) (target_of_direct bs p d.length k ∙ ap (λ (o : Option Decoded). target_in o p) e ∙ ap (target d.length p) g) far (rest inside.0)

neither : (a b : Option Refusal) → option_or a b ≡ None → (a ≡ None) × (b ≡ None)
neither None b e = (refl, e)
neither (Some x) b e = let z : ◌≡◌ {A = ℕ} 0 1 = cc in absurd (omega arith)

laid_by : (bs : List ℕ) (row : EntryRow) (turns p : ℕ) (t : Bool) (x : Option (Kind × ℕ)) → ltb p (length bs) ≡ t → taken_at bs p ≡ x → Octets bs 0 (length bs) →
    length bs ≤ p + suc turns → stop_from (suc turns) bs row p ≡ None → Whole bs (suc turns) p →
    ((q : ℕ) → length bs ≤ q + turns → stop_from turns bs row q ≡ None → Whole bs turns q → Laid bs row turns q) → Laid bs row (suc turns) p
laid_by bs row turns p false x e k o l s w f = laid_ends bs row (suc turns) p (ltb-false p (length bs) e)
laid_by bs row turns p true None e k o l s w f =
    let n : stop_from (suc turns) bs row p ≡ Some (NoMatch p) = stop_none (suc turns) turns bs row p refl (ltb-true p (length bs) e) k in
    let z : ◌≡◌ {A = ℕ} 0 1 = cc in
    absurd (omega arith)
laid_by bs row turns p true (Some x) e k o l s w f =
    let h : p < length bs = ltb-true p (length bs) e in
    let n = neither (far_from (length bs) row p (target_at bs p)) (stop_from turns bs row (p + x.1)) (sym (stop_on (suc turns) turns bs row p x refl h k) ∙ s) in
    laid_what bs row turns p x (what bs p x k) o h k n.0 w (λ u. f (p + x.1) (omega arith) n.1 (whole_on bs turns p x h k u w))

laid : (turns : ℕ) (bs : List ℕ) (row : EntryRow) (p : ℕ) → Octets bs 0 (length bs) → length bs ≤ p + turns → stop_from turns bs row p ≡ None → Whole bs turns p → Laid bs row turns p
laid zero bs row p o l s w = laid_ends bs row zero p (omega arith)
laid (suc turns) bs row p o l s w = laid_by bs row turns p (ltb p (length bs)) (taken_at bs p) refl refl o l s w (λ q. laid turns bs row q o)

-- nothing is wrong at any address
first_none : (n : ℕ) (f : ℕ → Option Refusal) → first f n ≡ None → (i : ℕ) → i < n → f i ≡ None
unfolding first
first_none zero f e i h = absurd (omega arith)
first_none (suc n) f e zero h = (neither (f 0) (first (λ i. f (suc i)) n) e).0
first_none (suc n) f e (suc i) h = first_none n (λ i. f (suc i)) (neither (f 0) (first (λ i. f (suc i)) n) e).1 i (omega arith)

right_by : (i : ℕ) (a b c : Bool) → cond a None (cond b (Some (Unaligned i)) (cond c (Some (MidTarget i)) None)) ≡ None → (b ≡ true) ⊎ (c ≡ true) → a ≡ true
right_by i true b c e h = refl
right_by i false true c e h = let z : ◌≡◌ {A = ℕ} 0 1 = cc in absurd (omega arith)
right_by i false false true e h = let z : ◌≡◌ {A = ℕ} 0 1 = cc in absurd (omega arith)
right_by i false false false e (inl h) = h
right_by i false false false e (inr h) = h

-- a multiple of 32 and a target are starts
starts_right : (image : List ℕ) → misplaced (is_start image) (is_target image) (length image) ≡ None → (a : ℕ) → a < length image →
    (eqb (a % 32) 0 ≡ true) ⊎ (is_target image a ≡ true) → is_start image a ≡ true
starts_right image e a h s =
    right_by a (is_start image a) (eqb (a % 32) 0) (is_target image a) (first_none (length image) (wrong_at (is_start image) (is_target image)) e a h) s

landing_by : (image : List ℕ) (row : EntryRow) (is : List Placed) (t : ℕ) → misplaced (is_start image) (is_target image) (length image) ≡ None →
    ((a : ℕ) → is_start image a ≡ true → Lands is a) → Aims image row (length image) 0 t → Lands is t ⊎ (is_entry row t ≡ true)
landing_by image row is t e f (inl a) = inl (f t (starts_right image e t a.0 (inr a.1)))
landing_by image row is t e f (inr a) = inr a

meets_by : (image : List ℕ) (row : EntryRow) → misplaced (is_start image) (is_target image) (length image) ≡ None → Laid image row (length image) 0 → Meets image row
meets_by image row e l = record {
  instructions = l.instructions;
  divides = l.divides;
  permitted = l.permitted;
  aligned = λ a h m.
      let s = l.starts a (starts_right image e a h (inl (eq-eqb (a % 32) 0 m))) in
      record { instruction = s.instruction; listed = s.listed; stands = s.stands };
  guarded = l.guarded;
  landing = λ x m t g. told row l.instructions t (landing_by image row l.instructions t e l.starts (l.aims x m t g));
}

pub obeys : (image : List ℕ) (row : EntryRow) → Octets image 0 (length image) → found image row ≡ None → Meets image row
obeys image row o e =
    let n = neither (stopped image row) (misplaced (is_start image) (is_target image) (length image)) e in
    meets_by image row n.1
    (laid (length image) image row 0 o (omega arith) n.0 (λ a _ h m. starts_right image n.1 a h (inl (eq-eqb (a % 32) 0 m))))
