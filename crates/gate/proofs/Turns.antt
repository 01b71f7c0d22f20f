-- The turns of the walk: what has been marked, and what is still to come.
use Rattle.std.proofs.Common.{◌≡◌, ℕ, zero, suc, ◌+◌, ◌-◌, ◌*◌, ◌<◌, ◌≤◌, Bool, true, false, ◌||◌, eqb, List, length, replicate, Some, None, sym, refl, ap, ◌∙◌, arith}
use Rattle.std.proofs.lemmas.Bool.{ne_eqb, lt-ltb, le-ltb, cond-true, cond-false}
use Rattle.std.specs.Option.{option_or}
use Rattle.x86.specs.Laws.{Inside}
use Rattle.gate.specs.declared.elements.Kind.{Kind}
use Rattle.gate.specs.declared.entries.EntryRow.{EntryRow}
use Rattle.gate.specs.declared.refusals.Refusal.TheVariants.{NoMatch, FarTarget}
use Rattle.gate.specs.Bitmaps.{bitmap, marked}
use Rattle.gate.specs.Elements.{taken_at, target_at}
use Rattle.gate.specs.Entries.{is_entry}
use Rattle.gate.specs.Walks.{if_taken, some_taken, is_start, is_target, equals, far_from, stop_from, stopped}
use Rattle.gate.proofs.Bits.{bitmap_ext, bitmap_none, mark_all}

-- over an element
pub some_taken_on : (f g : ℕ) (bs : List ℕ) (m : ℕ → Bool) (p : ℕ) (x : Kind × ℕ) → f ≡ suc g → p < length bs → taken_at bs p ≡ Some x →
    some_taken f bs m p ≡ (m p || some_taken g bs m (p + x.1))
unfolding some_taken
some_taken_on f g bs m p x e h t = rw e (cond-true _ _ _ (lt-ltb p (length bs) h) ∙ ap (λ o. if_taken o false (λ n. m p || some_taken g bs m (p + n))) t)

pub some_taken_ends : (f : ℕ) (bs : List ℕ) (m : ℕ → Bool) (p : ℕ) → length bs ≤ p → some_taken f bs m p ≡ false
unfolding some_taken
some_taken_ends zero bs m p h = refl
some_taken_ends (suc f) bs m p h = cond-false _ _ _ (le-ltb p (length bs) h)

pub stop_on : (f g : ℕ) (bs : List ℕ) (row : EntryRow) (p : ℕ) (x : Kind × ℕ) → f ≡ suc g → p < length bs → taken_at bs p ≡ Some x →
    stop_from f bs row p ≡ option_or (far_from (length bs) row p (target_at bs p)) (stop_from g bs row (p + x.1))
unfolding stop_from
stop_on f g bs row p x e h t =
    rw e (cond-true _ _ _ (lt-ltb p (length bs) h) ∙ ap (λ o. if_taken o (Some (NoMatch p)) (λ n. option_or (far_from (length bs) row p (target_at bs p)) (stop_from g bs row (p + n)))) t)

pub stop_none : (f g : ℕ) (bs : List ℕ) (row : EntryRow) (p : ℕ) → f ≡ suc g → p < length bs → taken_at bs p ≡ None →
    stop_from f bs row p ≡ Some (NoMatch p)
unfolding stop_from
stop_none f g bs row p e h t =
    rw e (cond-true _ _ _ (lt-ltb p (length bs) h) ∙ ap (λ o. if_taken o (Some (NoMatch p)) (λ n. option_or (far_from (length bs) row p (target_at bs p)) (stop_from g bs row (p + n)))) t)

pub stop_ends : (f : ℕ) (bs : List ℕ) (row : EntryRow) (p : ℕ) → length bs ≤ p → stop_from f bs row p ≡ None
unfolding stop_from
stop_ends zero bs row p h = refl
stop_ends (suc f) bs row p h = cond-false _ _ _ (le-ltb p (length bs) h)

-- marks in a buffer, where m p i says that what is taken at p marks i: those so far and those to come are all
pub record Marking (bs : List ℕ) (k : ℕ) (m : ℕ → ℕ → Bool) (turns p : ℕ) (buffer : List ℕ) : Type 0 where
  pub so_far : ℕ → Bool
  pub holds : buffer ≡ bitmap so_far k
  pub splits : (i : ℕ) → i < 8 * k → (so_far i || some_taken turns bs (λ p. m p i) p) ≡ some_taken (length bs) bs (λ p. m p i) 0

or_assoc : (a b c : Bool) → ((a || b) || c) ≡ (a || (b || c))
or_assoc true b c = refl
or_assoc false b c = refl

or_false : (b : Bool) → (b || false) ≡ b
or_false true = refl
or_false false = refl

marking_none : (bs : List ℕ) (k : ℕ) (m : ℕ → ℕ → Bool) (buffer : List ℕ) → buffer ≡ replicate k 0 → Marking bs k m (length bs) 0 buffer
marking_none bs k m buffer e = record {
  so_far = λ _. false;
  holds = e ∙ sym (bitmap_none k);
  splits = λ i _. refl;
}

-- a turn that marks x
marking_more : (bs : List ℕ) (k : ℕ) (m : ℕ → ℕ → Bool) (f g p : ℕ) (buffer : List ℕ) (e : Kind × ℕ) (x : ℕ) →
    Marking bs k m f p buffer → f ≡ suc g → p < length bs → taken_at bs p ≡ Some e → x < 8 * k → ((i : ℕ) → m p i ≡ eqb x i) →
    Marking bs k m g (p + e.1) (marked buffer x)
marking_more bs k m f g p buffer e x w s h t l is = record {
  so_far = λ i. w.so_far i || eqb x i;
  holds = ap (λ xs. marked xs x) w.holds ∙ mark_all k x w.so_far l;
  splits = λ i b. or_assoc (w.so_far i) (eqb x i) (some_taken g bs (λ p. m p i) (p + e.1)) ∙ ap (λ v. w.so_far i || (v || some_taken g bs (λ p. m p i) (p + e.1))) (sym (is i)) ∙ ap (λ v. w.so_far i || v) (sym (some_taken_on f g bs (λ p. m p i) p e s h t)) ∙ w.splits i b;
}

-- a turn that marks nothing in the buffer
marking_kept : (bs : List ℕ) (k : ℕ) (m : ℕ → ℕ → Bool) (f g p : ℕ) (buffer : List ℕ) (e : Kind × ℕ) →
    Marking bs k m f p buffer → f ≡ suc g → p < length bs → taken_at bs p ≡ Some e → ((i : ℕ) → i < 8 * k → m p i ≡ false) →
    Marking bs k m g (p + e.1) buffer
marking_kept bs k m f g p buffer e w s h t is = record {
  so_far = w.so_far;
  holds = w.holds;
  splits = λ i b. ap (λ v. w.so_far i || (v || some_taken g bs (λ p. m p i) (p + e.1))) (sym (is i b)) ∙ ap (λ v. w.so_far i || v) (sym (some_taken_on f g bs (λ p. m p i) p e s h t)) ∙ w.splits i b;
}

-- at the end all is marked
marking_all : (bs : List ℕ) (k : ℕ) (m : ℕ → ℕ → Bool) (f p : ℕ) (buffer : List ℕ) → Marking bs k m f p buffer → length bs ≤ p →
    buffer ≡ bitmap (λ i. some_taken (length bs) bs (λ p. m p i) 0) k
marking_all bs k m f p buffer w h =
    w.holds ∙ (bitmap_ext k w.so_far (λ i. some_taken (length bs) bs (λ p. m p i) 0) (λ i b. sym (or_false (w.so_far i)) ∙ ap (λ v. w.so_far i || v) (sym (some_taken_ends f bs (λ p. m p i) p h)) ∙ w.splits i b))

abbrev starts_at : ℕ → ℕ → Bool
starts_at p i = eqb p i

abbrev goes_to : List ℕ → ℕ → ℕ → Bool
goes_to bs p i = equals i (target_at bs p)

-- the walk at p
pub record Walking (bs : List ℕ) (row : EntryRow) (k : ℕ) (p : ℕ) (starts targets : List ℕ) : Type 0 where
  pub within : p ≤ length bs
  pub turns : ℕ
  pub enough : length bs ≤ p + turns
  pub stops : stop_from turns bs row p ≡ stopped bs row
  pub starting : Marking bs k starts_at turns p starts
  pub targeting : Marking bs k (goes_to bs) turns p targets

pub walking_starts : (bs : List ℕ) (row : EntryRow) (k : ℕ) (starts targets : List ℕ) → starts ≡ replicate k 0 → targets ≡ replicate k 0 → Walking bs row k 0 starts targets
walking_starts bs row k starts targets s t = record {
  within = omega arith;
  turns = length bs;
  enough = omega arith;
  stops = refl;
  starting = marking_none bs k starts_at starts s;
  targeting = marking_none bs k (goes_to bs) targets t;
}

one_less : (bs : List ℕ) (p f : ℕ) → p < length bs → length bs ≤ p + f → f ≡ suc (f - 1)
one_less bs p f h e = omega arith

walking_on : (bs : List ℕ) (row : EntryRow) (k : ℕ) (p : ℕ) (starts targets starts' targets' : List ℕ) (x : Kind × ℕ) (w : Walking bs row k p starts targets) →
    p < length bs → length bs ≡ 8 * k → starts' ≡ marked starts p → taken_at bs p ≡ Some x → Inside bs p x.1 → far_from (length bs) row p (target_at bs p) ≡ None →
    Marking bs k (goes_to bs) (w.turns - 1) (p + x.1) targets' →
    Walking bs row k (p + x.1) starts' targets'
walking_on bs row k p starts targets starts' targets' x w h l is t inside far m =
    let s : w.turns ≡ suc (w.turns - 1) = one_less bs p w.turns h w.enough in
    record {
      within = inside.1;
      turns = w.turns - 1;
      enough = omega (arith, w.enough, inside.0);
      stops = sym (stop_on w.turns (w.turns - 1) bs row p x s h t ∙ ap (λ o. option_or o (stop_from (w.turns - 1) bs row (p + x.1))) far) ∙ w.stops;
      starting = rw is (marking_more bs k starts_at w.turns (w.turns - 1) p starts x p w.starting s h t (omega arith) (λ i. refl));
      targeting = m;
    }

-- over what goes nowhere
pub walking_plain : (bs : List ℕ) (row : EntryRow) (k : ℕ) (p : ℕ) (starts targets starts' : List ℕ) (x : Kind × ℕ) → Walking bs row k p starts targets →
    p < length bs → length bs ≡ 8 * k → starts' ≡ marked starts p → taken_at bs p ≡ Some x → Inside bs p x.1 → target_at bs p ≡ None →
    Walking bs row k (p + x.1) starts' targets
walking_plain bs row k p starts targets starts' x w h l is t inside e =
    walking_on bs row k p starts targets starts' targets x w h l is t inside (ap (far_from (length bs) row p) e) (marking_kept bs k (goes_to bs) w.turns (w.turns - 1) p targets x w.targeting (one_less bs p w.turns h w.enough) h t (λ i _. ap (equals i) e))

-- over a direct form that stays in the image
pub walking_near : (bs : List ℕ) (row : EntryRow) (k : ℕ) (p : ℕ) (starts targets starts' targets' : List ℕ) (x : Kind × ℕ) (to : ℕ) → Walking bs row k p starts targets →
    p < length bs → length bs ≡ 8 * k → starts' ≡ marked starts p → taken_at bs p ≡ Some x → Inside bs p x.1 → target_at bs p ≡ Some to → to < length bs → targets' ≡ marked targets to →
    Walking bs row k (p + x.1) starts' targets'
walking_near bs row k p starts targets starts' targets' x to w h l is t inside e near is' =
    walking_on bs row k p starts targets starts' targets' x w h l is t inside (ap (far_from (length bs) row p) e ∙ cond-true _ _ _ (lt-ltb to (length bs) near)) (rw is' (marking_more bs k (goes_to bs) w.turns (w.turns - 1) p targets x to w.targeting (one_less bs p w.turns h w.enough) h t (omega arith) (λ i. ap (equals i) e)))

-- over a direct form that goes to an entry
pub walking_entry : (bs : List ℕ) (row : EntryRow) (k : ℕ) (p : ℕ) (starts targets starts' : List ℕ) (x : Kind × ℕ) (to : ℕ) → Walking bs row k p starts targets →
    p < length bs → length bs ≡ 8 * k → starts' ≡ marked starts p → taken_at bs p ≡ Some x → Inside bs p x.1 → target_at bs p ≡ Some to → length bs ≤ to → is_entry row to ≡ true →
    Walking bs row k (p + x.1) starts' targets
walking_entry bs row k p starts targets starts' x to w h l is t inside e past entry =
    walking_on bs row k p starts targets starts' targets x w h l is t inside (ap (far_from (length bs) row p) e ∙ cond-false _ _ _ (le-ltb to (length bs) past) ∙ cond-true _ _ _ entry) (marking_kept bs k (goes_to bs) w.turns (w.turns - 1) p targets x w.targeting (one_less bs p w.turns h w.enough) h t (λ i b. ap (equals i) e ∙ ne_eqb to i (λ q. omega arith)))

-- a direct form that goes outside the image and to no entry
pub walking_far : (bs : List ℕ) (row : EntryRow) (k : ℕ) (p : ℕ) (starts targets : List ℕ) (x : Kind × ℕ) (to : ℕ) → Walking bs row k p starts targets →
    p < length bs → taken_at bs p ≡ Some x → target_at bs p ≡ Some to → length bs ≤ to → is_entry row to ≡ false →
    stopped bs row ≡ Some (FarTarget p)
walking_far bs row k p starts targets x to w h t e past entry =
    let far : far_from (length bs) row p (target_at bs p) ≡ Some (FarTarget p) = ap (far_from (length bs) row p) e ∙ cond-false _ _ _ (le-ltb to (length bs) past) ∙ cond-false _ _ _ entry in
    sym w.stops ∙ stop_on w.turns (w.turns - 1) bs row p x (one_less bs p w.turns h w.enough) h t ∙ ap (λ o. option_or o (stop_from (w.turns - 1) bs row (p + x.1))) far

-- nothing matches
pub walking_none : (bs : List ℕ) (row : EntryRow) (k : ℕ) (p : ℕ) (starts targets : List ℕ) → Walking bs row k p starts targets →
    p < length bs → taken_at bs p ≡ None → stopped bs row ≡ Some (NoMatch p)
walking_none bs row k p starts targets w h t = sym w.stops ∙ stop_none w.turns (w.turns - 1) bs row p (one_less bs p w.turns h w.enough) h t

-- the end of the image
pub record Walked (bs : List ℕ) (row : EntryRow) (k : ℕ) (starts targets : List ℕ) : Type 0 where
  pub goes : stopped bs row ≡ None
  pub started : starts ≡ bitmap (is_start bs) k
  pub targeted : targets ≡ bitmap (is_target bs) k

pub walking_ends : (bs : List ℕ) (row : EntryRow) (k : ℕ) (p : ℕ) (starts targets : List ℕ) → Walking bs row k p starts targets → length bs ≤ p →
    Walked bs row k starts targets
walking_ends bs row k p starts targets w h = record {
  goes = sym w.stops ∙ stop_ends w.turns bs row p h;
  started = marking_all bs k starts_at w.turns p starts w.starting h;
  targeted = marking_all bs k (goes_to bs) w.turns p targets w.targeting h;
}

pub walking_same : (bs : List ℕ) (row : EntryRow) (k : ℕ) (p : ℕ) (starts targets targets' : List ℕ) → targets' ≡ targets → Walking bs row k p starts targets → Walking bs row k p starts targets'
walking_same bs row k p starts targets targets' e w = rw e w
