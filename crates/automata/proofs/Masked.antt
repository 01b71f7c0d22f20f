-- The run over the table of pairs answers the length that the grammar gives.
use Rattle.std.proofs.Common.{◌≡◌, ℕ, zero, suc, ◌+◌, ◌-◌, ◌<◌, ◌≤◌, Bool, true, false, cond, not, ◌&&◌, ◌||◌, eqb, leb, List, [], ◌∷◌, length, get_or, Some, None, Option, sym, refl, ap, ◌∙◌, arith, le-leb, leb-true}
use Rattle.std.specs.Option.{option_map}
use Rattle.x86.specs.declared.pairs.Transfer.TheVariants.{Jump, Call}
use Rattle.x86.specs.declared.pairs.Pair.{Pair}
use Rattle.x86.specs.Numbers.{register_of}
use Rattle.x86.specs.Pairs.{pair_of, transfer_at, masks, pair_at}
use Rattle.automata.specs.Lengths.{of_pair}
use Rattle.automata.specs.Runs.{reached, run}
use Rattle.automata.specs.Masks.{State, rejecting, accepting, naming, masking, leaving, through, next, place, states, pair_next}
use Rattle.automata.proofs.Walked.{goes_on}

-- a state is found at its number
found_masking : (r : ℕ) → r < 8 → get_or states (4 + r) rejecting ≡ masking r
found_masking zero h = refl
found_masking (suc zero) h = refl
found_masking (suc (suc zero)) h = refl
found_masking (suc (suc (suc zero))) h = refl
found_masking (suc (suc (suc (suc zero)))) h = refl
found_masking (suc (suc (suc (suc (suc zero))))) h = refl
found_masking (suc (suc (suc (suc (suc (suc zero)))))) h = refl
found_masking (suc (suc (suc (suc (suc (suc (suc zero))))))) h = refl
found_masking (suc (suc (suc (suc (suc (suc (suc (suc n)))))))) h = absurd (omega arith)

found_leaving : (r : ℕ) → r < 8 → get_or states (12 + r) rejecting ≡ leaving r
found_leaving zero h = refl
found_leaving (suc zero) h = refl
found_leaving (suc (suc zero)) h = refl
found_leaving (suc (suc (suc zero))) h = refl
found_leaving (suc (suc (suc (suc zero)))) h = refl
found_leaving (suc (suc (suc (suc (suc zero))))) h = refl
found_leaving (suc (suc (suc (suc (suc (suc zero)))))) h = refl
found_leaving (suc (suc (suc (suc (suc (suc (suc zero))))))) h = refl
found_leaving (suc (suc (suc (suc (suc (suc (suc (suc n)))))))) h = absurd (omega arith)

found_through : (r : ℕ) → r < 8 → get_or states (20 + r) rejecting ≡ through r
found_through zero h = refl
found_through (suc zero) h = refl
found_through (suc (suc zero)) h = refl
found_through (suc (suc (suc zero))) h = refl
found_through (suc (suc (suc (suc zero)))) h = refl
found_through (suc (suc (suc (suc (suc zero))))) h = refl
found_through (suc (suc (suc (suc (suc (suc zero)))))) h = refl
found_through (suc (suc (suc (suc (suc (suc (suc zero))))))) h = refl
found_through (suc (suc (suc (suc (suc (suc (suc (suc n)))))))) h = absurd (omega arith)

abbrev from : State → List ℕ → Option ℕ
from s bs = reached (place s) (run pair_next (place s) bs)

-- what each state makes of the rest
abbrev through_of : ℕ → List ℕ → Option ℕ
through_of r [] = None
through_of r (e ∷ es) = cond (eqb e (0xE0 + r) || eqb e (0xD0 + r)) (Some 1) None

abbrev leaving_of : ℕ → List ℕ → Option ℕ
leaving_of r [] = None
leaving_of r (d ∷ ds) = cond (eqb d 0xFF) (option_map suc (through_of r ds)) None

abbrev masking_of : ℕ → List ℕ → Option ℕ
masking_of r [] = None
masking_of r (c ∷ cs) = cond (eqb c 0xE0) (option_map suc (leaving_of r cs)) None

abbrev naming_of : List ℕ → Option ℕ
naming_of [] = None
naming_of (b ∷ bs) = cond (leb 0xE0 b && (leb b 0xE7 && not (eqb b 0xE4))) (option_map suc (masking_of (b - 0xE0) bs)) None

abbrev starting_of : List ℕ → Option ℕ
starting_of [] = None
starting_of (a ∷ rest) = cond (eqb a 0x83) (option_map suc (naming_of rest)) None

through_by : (t : Bool) (es : List ℕ) → from (cond t accepting rejecting) es ≡ cond t (Some 1) None
through_by true es = refl
through_by false es = refl

through_run : (r : ℕ) → r < 8 → (bs : List ℕ) → run pair_next (20 + r) bs ≡ through_of r bs
unfolding pair_next
through_run r h [] = refl
through_run r h (e ∷ es) = ap (λ (s : State). from (next s e) es) (found_through r h) ∙ through_by (eqb e (0xE0 + r) || eqb e (0xD0 + r)) es

leaving_by : (r : ℕ) → r < 8 → (t : Bool) (ds : List ℕ) → from (cond t (through r) rejecting) ds ≡ cond t (option_map suc (through_of r ds)) None
leaving_by r h true ds = goes_on (20 + r) (run pair_next (20 + r) ds) (omega arith) ∙ ap (option_map suc) (through_run r h ds)
leaving_by r h false ds = refl

leaving_run : (r : ℕ) → r < 8 → (bs : List ℕ) → run pair_next (12 + r) bs ≡ leaving_of r bs
unfolding pair_next
leaving_run r h [] = refl
leaving_run r h (d ∷ ds) = ap (λ (s : State). from (next s d) ds) (found_leaving r h) ∙ leaving_by r h (eqb d 0xFF) ds

masking_by : (r : ℕ) → r < 8 → (t : Bool) (cs : List ℕ) → from (cond t (leaving r) rejecting) cs ≡ cond t (option_map suc (leaving_of r cs)) None
masking_by r h true cs = goes_on (12 + r) (run pair_next (12 + r) cs) (omega arith) ∙ ap (option_map suc) (leaving_run r h cs)
masking_by r h false cs = refl

masking_run : (r : ℕ) → r < 8 → (bs : List ℕ) → run pair_next (4 + r) bs ≡ masking_of r bs
unfolding pair_next
masking_run r h [] = refl
masking_run r h (c ∷ cs) = ap (λ (s : State). from (next s c) cs) (found_masking r h) ∙ masking_by r h (eqb c 0xE0) cs

and_left : (a b : Bool) → (a && b) ≡ true → a ≡ true
and_left true b e = refl
and_left false b e = e

and_right : (a b : Bool) → (a && b) ≡ true → b ≡ true
and_right true b e = e
and_right false b e = let z : ◌≡◌ {A = ℕ} 0 1 = cc in absurd (omega arith)

naming_by : (b : ℕ) (t : Bool) (bs : List ℕ) → (leb 0xE0 b && (leb b 0xE7 && not (eqb b 0xE4))) ≡ t → from (cond t (masking (b - 0xE0)) rejecting) bs ≡ cond t (option_map suc (masking_of (b - 0xE0) bs)) None
naming_by b true bs e =
    let l : 0xE0 ≤ b = leb-true 0xE0 b (and_left (leb 0xE0 b) _ e) in
    let h : b ≤ 0xE7 = leb-true b 0xE7 (and_left (leb b 0xE7) _ (and_right (leb 0xE0 b) _ e)) in
    goes_on (4 + (b - 0xE0)) (run pair_next (4 + (b - 0xE0)) bs) (omega arith) ∙ ap (option_map suc) (masking_run (b - 0xE0) (omega arith) bs)
naming_by b false bs e = refl

naming_run : (bs : List ℕ) → run pair_next 3 bs ≡ naming_of bs
unfolding pair_next
naming_run [] = refl
naming_run (b ∷ bs) = naming_by b (leb 0xE0 b && (leb b 0xE7 && not (eqb b 0xE4))) bs refl

starting_by : (t : Bool) (rest : List ℕ) → from (cond t naming rejecting) rest ≡ cond t (option_map suc (naming_of rest)) None
starting_by true rest = ap (option_map suc) (naming_run rest)
starting_by false rest = refl

starting_run : (bs : List ℕ) → run pair_next 2 bs ≡ starting_of bs
unfolding pair_next
starting_run [] = refl
starting_run (a ∷ rest) = starting_by (eqb a 0x83) rest

-- a run that is cut off answers nothing
cut : (t : Bool) (x : Option ℕ) → x ≡ None → cond t (option_map suc x) None ≡ None
cut true x e = ap (option_map suc) e
cut false x e = refl

five_by : (s₁ s₂ s₃ s₄ s₅ s₆ u v : Bool) (x y : Pair) →
    cond s₁ (option_map suc (cond (s₂ && (s₃ && s₄)) (option_map suc (cond s₅ (option_map suc (cond s₆ (option_map suc (cond (u || v) (Some 1) None)) None)) None)) None)) None
    ≡ of_pair (cond (s₁ && (s₂ && (s₃ && (s₄ && (s₅ && s₆))))) (cond u (Some x) (cond v (Some y) None)) None)
five_by false s₂ s₃ s₄ s₅ s₆ u v x y = refl
five_by true false s₃ s₄ s₅ s₆ u v x y = refl
five_by true true false s₄ s₅ s₆ u v x y = refl
five_by true true true false s₅ s₆ u v x y = refl
five_by true true true true false s₆ u v x y = refl
five_by true true true true true false u v x y = refl
five_by true true true true true true true v x y = refl
five_by true true true true true true false true x y = refl
five_by true true true true true true false false x y = refl

pub pair_run : (bs : List ℕ) → run pair_next 2 bs ≡ of_pair (pair_at bs 0)
pair_run [] = starting_run []
pair_run (a ∷ []) = starting_run (a ∷ []) ∙ cut (eqb a 0x83) None refl
pair_run (a ∷ (b ∷ [])) = starting_run (a ∷ (b ∷ [])) ∙ cut (eqb a 0x83) _ (cut (leb 0xE0 b && (leb b 0xE7 && not (eqb b 0xE4))) None refl)
pair_run (a ∷ (b ∷ (c ∷ []))) =
    starting_run (a ∷ (b ∷ (c ∷ []))) ∙ cut (eqb a 0x83) _ (cut (leb 0xE0 b && (leb b 0xE7 && not (eqb b 0xE4))) _ (cut (eqb c 0xE0) None refl))
pair_run (a ∷ (b ∷ (c ∷ (d ∷ [])))) =
    starting_run (a ∷ (b ∷ (c ∷ (d ∷ []))))
    ∙ cut (eqb a 0x83) _ (cut (leb 0xE0 b && (leb b 0xE7 && not (eqb b 0xE4))) _ (cut (eqb c 0xE0) _ (cut (eqb d 0xFF) None refl)))
pair_run (a ∷ (b ∷ (c ∷ (d ∷ (e ∷ rest))))) =
    starting_run (a ∷ (b ∷ (c ∷ (d ∷ (e ∷ rest)))))
    ∙ five_by (eqb a 0x83) (leb 0xE0 b) (leb b 0xE7) (not (eqb b 0xE4)) (eqb c 0xE0) (eqb d 0xFF) (eqb e (0xE0 + (b - 0xE0))) (eqb e (0xD0 + (b - 0xE0)))
    (pair_of (register_of (b - 0xE0)) Jump) (pair_of (register_of (b - 0xE0)) Call)
    ∙ ap (λ (t : Bool). of_pair (cond (t && masks (a ∷ (b ∷ (c ∷ (d ∷ (e ∷ rest))))) 0) (transfer_at (b - 0xE0) e) None))
    (sym (le-leb 5 (length (a ∷ (b ∷ (c ∷ (d ∷ (e ∷ rest)))))) (omega arith)))
