-- What a walk answers, by the grammar.
use Rattle.std.proofs.Common.{◌≡◌, ℕ, ◌+◌, ◌≤◌, Bool, true, false, cond, ◌&&◌, leb, List, length, drop, Some, None, Option, sym, refl, ap, ◌∙◌, subst, arith, leb-true}
use Rattle.x86.specs.declared.instructions.Instruction.{Instruction}
use Rattle.x86.specs.declared.instructions.Instruction.TheVariants.{Straight, Direct, Loose}
use Rattle.x86.specs.declared.instructions.Decoded.{Decoded}
use Rattle.x86.specs.declared.pairs.Pair.{Pair}
use Rattle.x86.specs.Decoded.{decoded_at}
use Rattle.x86.specs.Pairs.{masks}
use Rattle.x86.specs.Laws.{Inside}
use Rattle.x86.proofs.Meets.{decoded_inside}
use Rattle.x86.proofs.Shift.{shift_decoded, shift_pair}
use Rattle.automata.specs.Lengths.{of_pair, of_straight, if_straight, of_direct, if_direct, pair_length_of, straight_length_of, direct_length_of}
use Rattle.automata.specs.Runs.{run}
use Rattle.automata.specs.Straights.{straight_next}
use Rattle.automata.specs.Directs.{direct_next}
use Rattle.automata.specs.Masks.{pair_next}
use Rattle.automata.proofs.Straight.{straight_run}
use Rattle.automata.proofs.Direct.{direct_run}
use Rattle.automata.proofs.Masked.{pair_run}

pub straight_agrees : (bs : List ℕ) (p : ℕ) → run straight_next 2 (drop p bs) ≡ straight_length_of bs p
straight_agrees bs p = straight_run (drop p bs) ∙ ap of_straight (sym (shift_decoded bs p))

pub direct_agrees : (bs : List ℕ) (p : ℕ) → run direct_next 2 (drop p bs) ≡ direct_length_of bs p
direct_agrees bs p = direct_run (drop p bs) ∙ ap of_direct (sym (shift_decoded bs p))

pub pair_agrees : (bs : List ℕ) (p : ℕ) → run pair_next 2 (drop p bs) ≡ pair_length_of bs p
pair_agrees bs p = pair_run (drop p bs) ∙ ap of_pair (sym (shift_pair bs p))

-- each lies inside and is short
abbrev pub Within : List ℕ → ℕ → ℕ → Type 0
Within bs p n = Inside bs p n × (n ≤ 12)

straight_if : (bs : List ℕ) (p m n : ℕ) (i : Instruction) → Within bs p m → if_straight m i ≡ Some n → Within bs p n
straight_if bs p m n (Straight i) h e = let z : m ≡ n = cc in subst (λ (k : ℕ). Within bs p k) z h
straight_if bs p m n (Direct i) h e = let z : ◌≡◌ {A = ℕ} 0 1 = cc in absurd (omega arith)
straight_if bs p m n (Loose i) h e = let z : ◌≡◌ {A = ℕ} 0 1 = cc in absurd (omega arith)

straight_of : (bs : List ℕ) (p n : ℕ) (o : Option Decoded) → decoded_at bs p ≡ o → of_straight o ≡ Some n → Within bs p n
straight_of bs p n None h e = let z : ◌≡◌ {A = ℕ} 0 1 = cc in absurd (omega arith)
straight_of bs p n (Some d) h e = straight_if bs p d.length n d.instruction (decoded_inside bs p d h) e

pub straight_inside : (bs : List ℕ) (p n : ℕ) → straight_length_of bs p ≡ Some n → Within bs p n
straight_inside bs p n e = straight_of bs p n (decoded_at bs p) refl e

direct_if : (bs : List ℕ) (p m n : ℕ) (i : Instruction) → Within bs p m → if_direct m i ≡ Some n → Within bs p n
direct_if bs p m n (Straight i) h e = let z : ◌≡◌ {A = ℕ} 0 1 = cc in absurd (omega arith)
direct_if bs p m n (Direct i) h e = let z : m ≡ n = cc in subst (λ (k : ℕ). Within bs p k) z h
direct_if bs p m n (Loose i) h e = let z : ◌≡◌ {A = ℕ} 0 1 = cc in absurd (omega arith)

direct_of : (bs : List ℕ) (p n : ℕ) (o : Option Decoded) → decoded_at bs p ≡ o → of_direct o ≡ Some n → Within bs p n
direct_of bs p n None h e = let z : ◌≡◌ {A = ℕ} 0 1 = cc in absurd (omega arith)
direct_of bs p n (Some d) h e = direct_if bs p d.length n d.instruction (decoded_inside bs p d h) e

pub direct_inside : (bs : List ℕ) (p n : ℕ) → direct_length_of bs p ≡ Some n → Within bs p n
direct_inside bs p n e = direct_of bs p n (decoded_at bs p) refl e

and_left : (a b : Bool) → (a && b) ≡ true → a ≡ true
and_left true b e = refl
and_left false b e = e

pair_by : (bs : List ℕ) (p n : ℕ) (t : Bool) (o : Option Pair) → (leb (p + 5) (length bs) && masks bs p) ≡ t → of_pair (cond t o None) ≡ Some n → Within bs p n
pair_by bs p n false o h e = let z : ◌≡◌ {A = ℕ} 0 1 = cc in absurd (omega arith)
pair_by bs p n true None h e = let z : ◌≡◌ {A = ℕ} 0 1 = cc in absurd (omega arith)
pair_by bs p n true (Some x) h e =
    let z : ◌≡◌ {A = ℕ} 5 n = cc in
    let l : p + 5 ≤ length bs = leb-true (p + 5) (length bs) (and_left (leb (p + 5) (length bs)) (masks bs p) h) in
    ((omega arith, omega arith), omega arith)

pub pair_inside : (bs : List ℕ) (p n : ℕ) → pair_length_of bs p ≡ Some n → Within bs p n
pair_inside bs p n e = pair_by bs p n (leb (p + 5) (length bs) && masks bs p) _ refl e
