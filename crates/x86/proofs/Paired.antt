-- The recogniser of pairs and the pairs of the grammar meet.
use Rattle.std.proofs.Common.{◌≡◌, ℕ, ◌+◌, ◌-◌, ◌<◌, ◌≤◌, Bool, true, false, cond, not, ◌&&◌, eqb, leb, List, ◌∷◌, ◌++◌, length, get_or, take, drop, Some, None, sym, refl, ap, ◌∙◌, subst, arith, eq-eqb, ne_eqb, eqb-true, le-leb, leb-true}
use borrow.Author.Tests.{eqb-false}
use Rattle.std.proofs.lemmas.Bool.Decides.{nat_tests}
use Rattle.x86.specs.declared.pairs.Transfer.{Transfer}
use Rattle.x86.specs.declared.pairs.Transfer.TheVariants.{Jump, Call}
use Rattle.x86.specs.declared.pairs.Pair.{Pair}
use Rattle.x86.specs.Numbers.{register_of}
use Rattle.x86.specs.Pairs.{pair_of, masks, transfer_at, pair_at}
use Rattle.x86.specs.Laws.{mask, through, leave, Pairs, paired, EveryPair, OnlyPairs}
use Rattle.x86.proofs.Bytes.{Holds, holds_some, holds_take, holds_end}
use Rattle.x86.proofs.Complete.{at_place, chosen, passed_over}

-- the five bytes by what they are
masks_true : (a b c d n : ℕ) → a ≡ 0x83 → b ≡ 0xE0 + n → n < 8 → (n ≡ 4 → ⊥) → c ≡ 0xE0 → d ≡ 0xFF →
    (eqb a 0x83 && (leb 0xE0 b && (leb b 0xE7 && (not (eqb b 0xE4) && (eqb c 0xE0 && eqb d 0xFF))))) ≡ true
masks_true a b c d n ha hb hn h4 hc hd = grind (arith, nat_tests)

transfer_of : (n b : ℕ) (t : Transfer) → b ≡ through t n → transfer_at n b ≡ Some (pair_of (register_of n) t)
transfer_of n b Jump h = chosen (eqb b (0xE0 + n)) _ _ _ (eq-eqb b (0xE0 + n) h) refl
transfer_of n b Call h = passed_over (eqb b (0xE0 + n)) _ _ _ (ne_eqb b (0xE0 + n) (λ e. omega (arith, h))) (chosen (eqb b (0xD0 + n)) _ _ _ (eq-eqb b (0xD0 + n) h) refl)

both_true : (a b : Bool) → a ≡ true → b ≡ true → (a && b) ≡ true
both_true true true p q = refl
both_true true false p q = q
both_true false b p q = p

recognises : (bs : List ℕ) (p n : ℕ) (t : Transfer) → n < 8 → (n ≡ 4 → ⊥) → Holds bs p (mask n ++ leave t n) → pair_at bs p ≡ Some (pair_of (register_of n) t)
recognises bs p n t h h4 k =
    let e : get_or bs (p + 2) 0 ≡ 0xE0 = at_place bs (p + 1 + 1) (p + 2) 0xE0 (omega arith) k.1.1.0 in
    let f : get_or bs (p + 3) 0 ≡ 0xFF = at_place bs (p + 1 + 1 + 1) (p + 3) 0xFF (omega arith) k.1.1.1.0 in
    let g : get_or bs (p + 4) 0 ≡ through t n = at_place bs (p + 1 + 1 + 1 + 1) (p + 4) (through t n) (omega arith) k.1.1.1.1.0 in
    let l : p + 5 ≤ length bs = omega (arith, holds_end bs (mask n ++ leave t n) p k) in
    chosen (leb (p + 5) (length bs) && masks bs p) _ _ _
    (both_true (leb (p + 5) (length bs)) (masks bs p) (le-leb (p + 5) (length bs) l)
    (masks_true (get_or bs p 0) (get_or bs (p + 1) 0) (get_or bs (p + 2) 0) (get_or bs (p + 3) 0) n k.0 k.1.0 h h4 e f))
    (ap (λ (m : ℕ). transfer_at m (get_or bs (p + 4) 0)) (omega (arith, k.1.0)) ∙ transfer_of n (get_or bs (p + 4) 0) t g)

pub every_pair : (bs : List ℕ) (p : ℕ) → EveryPair bs p (pair_at bs p)
every_pair bs p _ _ after (paired n t h h4) k = recognises bs p n t h h4 (holds_some bs ((0xE0 + n) ∷ (0xE0 ∷ leave t n)) after p 0x83 k)

-- what the tests say of the bytes
pub record Masked (bs : List ℕ) (p n : ℕ) : Type 0 where
  pub first : get_or bs p 0 ≡ 0x83
  pub second : get_or bs (p + 1) 0 ≡ 0xE0 + n
  pub small : n < 8
  pub other : n ≡ 4 → ⊥
  pub third : get_or bs (p + 2) 0 ≡ 0xE0
  pub fourth : get_or bs (p + 3) 0 ≡ 0xFF
  pub inside : p + 5 ≤ length bs

and_left : (a b : Bool) → (a && b) ≡ true → a ≡ true
and_left true b e = refl
and_left false b e = e

and_right : (a b : Bool) → (a && b) ≡ true → b ≡ true
and_right true b e = e
and_right false b e = let z : ◌≡◌ {A = ℕ} 0 1 = cc in absurd (omega arith)

not_true : (a : Bool) → not a ≡ true → a ≡ false
not_true true e = sym e
not_true false e = refl

masked_by : (bs : List ℕ) (p : ℕ) → (leb (p + 5) (length bs) && masks bs p) ≡ true → Masked bs p (get_or bs (p + 1) 0 - 0xE0)
masked_by bs p e =
    let b : ℕ = get_or bs (p + 1) 0 in
    let l = and_left (leb (p + 5) (length bs)) (masks bs p) e in
    let m = and_right (leb (p + 5) (length bs)) (masks bs p) e in
    let m1 = and_right (eqb (get_or bs p 0) 0x83) _ m in
    let m2 = and_right (leb 0xE0 (get_or bs (p + 1) 0)) _ m1 in
    let m3 = and_right (leb (get_or bs (p + 1) 0) 0xE7) _ m2 in
    let m4 = and_right (not (eqb (get_or bs (p + 1) 0) 0xE4)) _ m3 in
    let low : 0xE0 ≤ get_or bs (p + 1) 0 = leb-true 0xE0 (get_or bs (p + 1) 0) (and_left (leb 0xE0 (get_or bs (p + 1) 0)) _ m1) in
    let high : get_or bs (p + 1) 0 ≤ 0xE7 = leb-true (get_or bs (p + 1) 0) 0xE7 (and_left (leb (get_or bs (p + 1) 0) 0xE7) _ m2) in
    record {
      first = eqb-true (get_or bs p 0) 0x83 (and_left (eqb (get_or bs p 0) 0x83) _ m);
      second = omega arith;
      small = omega arith;
      other = λ q. eqb-false (get_or bs (p + 1) 0) 0xE4 (not_true (eqb (get_or bs (p + 1) 0) 0xE4) (and_left (not (eqb (get_or bs (p + 1) 0) 0xE4)) _ m3)) (omega arith);
      third = eqb-true (get_or bs (p + 2) 0) 0xE0 (and_left (eqb (get_or bs (p + 2) 0) 0xE0) _ m4);
      fourth = eqb-true (get_or bs (p + 3) 0) 0xFF (and_right (eqb (get_or bs (p + 2) 0) 0xE0) _ m4);
      inside = leb-true (p + 5) (length bs) l;
    }

held : (bs : List ℕ) (p n : ℕ) (t : Transfer) → Masked bs p n → get_or bs (p + 4) 0 ≡ through t n → Pairs (pair_of (register_of n) t) (take 5 (drop p bs))
held bs p n t m g =
    subst (λ (e : List ℕ). Pairs (pair_of (register_of n) t) e)
    (sym (holds_take bs (mask n ++ leave t n) p (
      m.first,
      (
        m.second,
        (
          at_place bs (p + 2) (p + 1 + 1) 0xE0 (omega arith) m.third,
          (
            at_place bs (p + 3) (p + 1 + 1 + 1) 0xFF (omega arith) m.fourth,
            (at_place bs (p + 4) (p + 1 + 1 + 1 + 1) (through t n) (omega arith) g, omega (arith, m.inside)),
          ),
        ),
      ),
    )))
    (paired n t m.small m.other)

left_by : (bs : List ℕ) (p n : ℕ) (x : Pair) (s u : Bool) → Masked bs p n → eqb (get_or bs (p + 4) 0) (0xE0 + n) ≡ s → eqb (get_or bs (p + 4) 0) (0xD0 + n) ≡ u →
    cond s (Some (pair_of (register_of n) Jump)) (cond u (Some (pair_of (register_of n) Call)) None) ≡ Some x → Pairs x (take 5 (drop p bs))
left_by bs p n x true u m a b e =
    let z : pair_of (register_of n) Jump ≡ x = cc in
    subst (λ (x : Pair). Pairs x (take 5 (drop p bs))) z (held bs p n Jump m (eqb-true (get_or bs (p + 4) 0) (0xE0 + n) a))
left_by bs p n x false true m a b e =
    let z : pair_of (register_of n) Call ≡ x = cc in
    subst (λ (x : Pair). Pairs x (take 5 (drop p bs))) z (held bs p n Call m (eqb-true (get_or bs (p + 4) 0) (0xD0 + n) b))
left_by bs p n x false false m a b e = let z : ◌≡◌ {A = ℕ} 0 1 = cc in absurd (omega arith)

only_by : (bs : List ℕ) (p : ℕ) (x : Pair) (t : Bool) → (leb (p + 5) (length bs) && masks bs p) ≡ t → cond t (transfer_at (get_or bs (p + 1) 0 - 0xE0) (get_or bs (p + 4) 0)) None ≡ Some x → Pairs x (take 5 (drop p bs))
only_by bs p x true m e =
    left_by bs p (get_or bs (p + 1) 0 - 0xE0) x (eqb (get_or bs (p + 4) 0) (0xE0 + (get_or bs (p + 1) 0 - 0xE0))) (eqb (get_or bs (p + 4) 0) (0xD0 + (get_or bs (p + 1) 0 - 0xE0))) (masked_by bs p m) refl refl e
only_by bs p x false m e = let z : ◌≡◌ {A = ℕ} 0 1 = cc in absurd (omega arith)

pub only_pairs : (bs : List ℕ) (p : ℕ) → OnlyPairs bs p (pair_at bs p)
only_pairs bs p x e = only_by bs p x (leb (p + 5) (length bs) && masks bs p) refl e
