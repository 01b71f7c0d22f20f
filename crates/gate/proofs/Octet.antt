-- One byte of each marks buffer: where an address that has to be a start is none.
use Rattle.std.proofs.Common.{◌≡◌, ℕ, zero, suc, ◌+◌, ◌-◌, ◌*◌, ◌/◌, ◌%◌, ◌^◌, ◌<◌, ◌≤◌, Bool, true, false, cond, not, ◌&&◌, eqb, List, get_or, Some, None, Option, sym, refl, ap, ◌∙◌, ⊎_elim, pow-suc, div-one, arith}
use native.Mathlib.Nat.{pow-succ', div-div-eq-div-mul}
use lib.Bits.{bit_and, and_block}
use lib.Count.{count_trailing_zeros}
use Rattle.std.proofs.lemmas.Bool.{eq-eqb, ne_eqb, eqb-true, cond-true, cond-false, cases_eq, false≢true}
use Rattle.std.specs.Option.{option_or}
use Rattle.gate.specs.declared.refusals.Refusal.{Refusal}
use Rattle.gate.specs.declared.refusals.Refusal.TheVariants.{Unaligned, MidTarget}
use Rattle.gate.specs.Bitmaps.{bits, bit_at}
use Rattle.gate.specs.Verdicts.{first, wrong_at, misplaced}
use Rattle.gate.proofs.Bits.{bits_ext, eqb_same}
use Rattle.gate.proofs.Firsts.{first_ext, first_split}

abbrev pub bit_of : ℕ → ℕ → Bool
bit_of b j = eqb ((b / 2 ^ j) % 2) 1

bit_below : (b : Bool) → cond b 1 0 < 2
bit_below true = omega arith
bit_below false = omega arith

odd : (n : ℕ) → n < 2 → cond (eqb n 1) 1 0 ≡ n
odd zero h = refl
odd (suc zero) h = refl
odd (suc (suc n)) h = absurd (omega arith)

-- a number is the number of its bits
pub bits_all : (n b : ℕ) → b < 2 ^ n → bits (bit_of b) n ≡ b
unfolding bits
bits_all zero b h = omega arith
bits_all (suc n) b h =
    let p = pow-suc 2 n in
    let t : bits (λ j. bit_of b (suc j)) n ≡ b / 2 =
    bits_ext n (λ j. bit_of b (suc j)) (bit_of (b / 2)) (λ j _. rw (pow-succ' 2 j, sym (div-div-eq-div-mul b 2 (2 ^ j))) refl) ∙ bits_all n (b / 2) (omega arith) in
    let d : b / 2 ^ 0 ≡ b = div-one b in
    let z : cond (bit_of b 0) 1 0 ≡ b % 2 = rw d (odd (b % 2) (omega arith)) in
    rw (t, z) (omega arith)

pub bits_below : (n : ℕ) (f : ℕ → Bool) → bits f n < 2 ^ n
unfolding bits
bits_below zero f = omega arith
bits_below (suc n) f =
    let p = pow-suc 2 n in
    let t = bits_below n (λ j. f (suc j)) in
    let b = bit_below (f 0) in
    omega arith

and_not : (t s : Bool) → bit_and (cond t 1 0) (1 - cond s 1 0) ≡ cond (t && not s) 1 0
and_not true true = refl
and_not true false = refl
and_not false true = refl
and_not false false = refl

-- the bits of t that s lacks
pub bits_missing : (n : ℕ) (t s : ℕ → Bool) → bit_and (bits t n) (2 ^ n - 1 - bits s n) ≡ bits (λ j. t j && not (s j)) n
unfolding bits
bits_missing zero t s = refl
bits_missing (suc n) t s =
    let p = pow-suc 2 n in
    let below = bits_below n (λ j. s (suc j)) in
    let b = bit_below (s 0) in
    let c : 2 ^ suc n - 1 - (bits (λ j. s (suc j)) n * 2 + cond (s 0) 1 0) ≡ (2 ^ n - 1 - bits (λ j. s (suc j)) n) * 2 + (1 - cond (s 0) 1 0) = omega arith in
    let k : bit_and (bits (λ j. t (suc j)) n * 2 + cond (t 0) 1 0) ((2 ^ n - 1 - bits (λ j. s (suc j)) n) * 2 + (1 - cond (s 0) 1 0)) ≡ bit_and (bits (λ j. t (suc j)) n) (2 ^ n - 1 - bits (λ j. s (suc j)) n) * 2 + bit_and (cond (t 0) 1 0) (1 - cond (s 0) 1 0) =
    and_block 1 (bits (λ j. t (suc j)) n) (2 ^ n - 1 - bits (λ j. s (suc j)) n) (cond (t 0) 1 0) (1 - cond (s 0) 1 0) (bit_below (t 0)) (omega arith) in
    let q = bits_missing n (λ j. t (suc j)) (λ j. s (suc j)) in
    rw (c, k, q, and_not (t 0) (s 0)) refl

abbrev if : {A : Type 0} → Bool → A → Option A
if b x = cond b (Some x) None

lowest_step : (n B : ℕ) (r : ℕ → Refusal) (o : Option Refusal) (v : Bool) → o ≡ cond (eqb B 0) None (Some (r (suc (count_trailing_zeros n B)))) →
    option_or (if v (r 0)) o ≡ cond (eqb (B * 2 + cond v 1 0) 0) None (Some (r (count_trailing_zeros (suc n) (B * 2 + cond v 1 0))))
unfolding count_trailing_zeros
lowest_step n B r o true e =
    let m : (B * 2 + 1) % 2 ≡ 1 = omega arith in
    rw (ne_eqb (B * 2 + 1) 0 (λ e. omega arith), m) refl
lowest_step n B r o false e =
    let m : (B * 2 + 0) % 2 ≡ 0 = omega arith in
    let d : (B * 2 + 0) / 2 ≡ B = omega arith in
    let z : eqb (B * 2 + 0) 0 ≡ eqb B 0 = eqb_same (B * 2 + 0) 0 B 0 (λ e. omega arith) (λ e. omega arith) in
    rw (m, d, z) e

-- the lowest bit that is set
pub lowest : (n : ℕ) (g : ℕ → Bool) (r : ℕ → Refusal) → first (λ j. if (g j) (r j)) n ≡ cond (eqb (bits g n) 0) None (Some (r (count_trailing_zeros n (bits g n))))
unfolding first bits
lowest zero g r = refl
lowest (suc n) g r = lowest_step n (bits (λ j. g (suc j)) n) r _ (g 0) (lowest n (λ j. g (suc j)) (λ j. r (suc j)))

-- bit j of byte i
at_byte : (buffer : List ℕ) (i j : ℕ) → j < 8 → bit_at buffer (8 * i + j) ≡ bit_of (get_or buffer i 0) j
at_byte buffer i j h =
    let d : (8 * i + j) / 8 ≡ i = omega arith in
    let m : (8 * i + j) % 8 ≡ j = omega arith in
    rw (d, m) refl

lowest_bit : (b v : ℕ) → b % 2 ≡ v → bit_of b 0 ≡ eqb v 1
lowest_bit b v e = rw (div-one b, e) refl

-- what is wrong at address j of byte i
abbrev pub wrong : List ℕ → List ℕ → ℕ → ℕ → Option Refusal
wrong starts targets i j = wrong_at (bit_at starts) (bit_at targets) (8 * i + j)

-- a block whose first address is no start
pub block_misses : (starts targets : List ℕ) (i : ℕ) → i % 4 ≡ 0 → get_or starts i 0 % 2 ≡ 0 → first (wrong starts targets i) 8 ≡ Some (Unaligned (8 * i))
unfolding first
block_misses starts targets i a e =
    let z : 8 * i + 0 ≡ 8 * i = omega arith in
    let s : bit_at starts (8 * i + 0) ≡ false = at_byte starts i 0 (omega arith) ∙ lowest_bit (get_or starts i 0) 0 e in
    let b : eqb ((8 * i + 0) % 32) 0 ≡ true = eq-eqb _ _ (omega arith) in
    let w : wrong starts targets i 0 ≡ Some (Unaligned (8 * i)) = cond-false _ _ _ s ∙ cond-true _ _ _ b ∙ ap (λ x. Some (Unaligned x)) z in
    ap (λ o. option_or o (first (λ j. wrong starts targets i (suc j)) 7)) w

decide : (start target block : Bool) (r q : Refusal) → (block ≡ true → start ≡ true) →
    cond start None (cond block (Some r) (cond target (Some q) None)) ≡ if (target && not start) q
decide true true block r q h = refl
decide true false block r q h = refl
decide false target true r q h = absurd (false≢true (h refl))
decide false true false r q h = refl
decide false false false r q h = refl

block_starts : (b i j : ℕ) → j < 8 → (i % 4 ≡ 0 → b % 2 ≡ 0 → ⊥) → eqb ((8 * i + j) % 32) 0 ≡ true → bit_of b j ≡ true
block_starts b i j h s e =
    let m : (8 * i + j) % 32 ≡ 0 = eqb-true _ _ e in
    let z : j ≡ 0 = omega arith in
    let q : i ≡ 4 * ((8 * i + j) / 32) = omega arith in
    let l : i / 4 ≤ (8 * i + j) / 32 = omega arith in
    let u : (8 * i + j) / 32 ≤ i / 4 = omega arith in
    let o : b % 2 ≡ 1 = ⊎_elim (λ (p : b % 2 ≡ 0). absurd (s (omega arith) p)) (λ (p : b % 2 ≡ 0 → ⊥). omega (arith, p)) (cases_eq (b % 2) 0) in
    rw z (lowest_bit b 1 o)

-- the bits of byte i of the targets that the starts lack
abbrev pub missing : List ℕ → List ℕ → ℕ → ℕ
missing starts targets i = bit_and (get_or targets i 0) (255 - get_or starts i 0)

missing_bits : (s t : ℕ) → s < 256 → t < 256 → bits (λ j. bit_of t j && not (bit_of s j)) 8 ≡ bit_and t (255 - s)
missing_bits s t hs ht =
    let m : bit_and (bits (bit_of t) 8) (255 - bits (bit_of s) 8) ≡ bits (λ j. bit_of t j && not (bit_of s j)) 8 = bits_missing 8 (bit_of t) (bit_of s) in
    let bt : bits (bit_of t) 8 ≡ t = bits_all 8 t (omega arith) in
    let bs : bits (bit_of s) 8 ≡ s = bits_all 8 s (omega arith) in
    sym m ∙ rw (bt, bs) refl

pub byte_misses : (starts targets : List ℕ) (i : ℕ) → (i % 4 ≡ 0 → get_or starts i 0 % 2 ≡ 0 → ⊥) → get_or starts i 0 < 256 → get_or targets i 0 < 256 →
    first (wrong starts targets i) 8 ≡ cond (eqb (missing starts targets i) 0) None (Some (MidTarget (8 * i + count_trailing_zeros 8 (missing starts targets i))))
byte_misses starts targets i a hs ht =
    let s : ℕ = get_or starts i 0 in
    let t : ℕ = get_or targets i 0 in
    let g : ℕ → Bool = λ j. bit_of t j && not (bit_of s j) in
    let e : (j : ℕ) → j < 8 → wrong starts targets i j ≡ if (g j) (MidTarget (8 * i + j)) =
    λ j h. rw (at_byte starts i j h, at_byte targets i j h) (decide (bit_of s j) (bit_of t j) _ _ _ (block_starts s i j h a)) in
    let m : bits g 8 ≡ missing starts targets i = missing_bits s t hs ht in
    first_ext 8 (wrong starts targets i) (λ j. if (g j) (MidTarget (8 * i + j))) e ∙ lowest 8 g (λ j. MidTarget (8 * i + j)) ∙ ap (λ b. cond (eqb b 0) None (Some (MidTarget (8 * i + count_trailing_zeros 8 b)))) m

-- what is wrong from byte i on, in m addresses
abbrev pub wrong_from : List ℕ → List ℕ → ℕ → ℕ → Option Refusal
wrong_from starts targets i m = first (wrong starts targets i) m

pub sweep_starts : (starts targets : List ℕ) (count : ℕ) → wrong_from starts targets 0 (8 * (count - 0)) ≡ misplaced (bit_at starts) (bit_at targets) (8 * count)
sweep_starts starts targets count =
    let c : count - 0 ≡ count = omega arith in
    rw c (first_ext (8 * count) (wrong starts targets 0) (wrong_at (bit_at starts) (bit_at targets)) (λ j _. ap (wrong_at (bit_at starts) (bit_at targets)) (omega arith)))

sweep_turn : (starts targets : List ℕ) (i count : ℕ) → i < count →
    wrong_from starts targets i (8 * (count - i)) ≡ option_or (first (wrong starts targets i) 8) (wrong_from starts targets (i + 1) (8 * (count - (i + 1))))
sweep_turn starts targets i count h =
    let c : 8 * (count - i) ≡ 8 + 8 * (count - (i + 1)) = omega arith in
    rw c (first_split 8 (8 * (count - (i + 1))) (wrong starts targets i) ∙ ap (option_or (first (wrong starts targets i) 8)) (first_ext (8 * (count - (i + 1))) (λ j. wrong starts targets i (8 + j)) (wrong starts targets (i + 1)) (λ j _. ap (wrong_at (bit_at starts) (bit_at targets)) (omega arith))))

pub sweep_on : (starts targets : List ℕ) (i count : ℕ) (all : Option Refusal) → i < count → wrong_from starts targets i (8 * (count - i)) ≡ all → first (wrong starts targets i) 8 ≡ None →
    wrong_from starts targets (i + 1) (8 * (count - (i + 1))) ≡ all
sweep_on starts targets i count all h e n =
    sym (sweep_turn starts targets i count h ∙ ap (λ o. option_or o (wrong_from starts targets (i + 1) (8 * (count - (i + 1))))) n) ∙ e

pub sweep_off : (starts targets : List ℕ) (i count : ℕ) (all : Option Refusal) (r : Refusal) → i < count → wrong_from starts targets i (8 * (count - i)) ≡ all → first (wrong starts targets i) 8 ≡ Some r →
    all ≡ Some r
sweep_off starts targets i count all r h e n =
    sym e ∙ sweep_turn starts targets i count h ∙ ap (λ o. option_or o (wrong_from starts targets (i + 1) (8 * (count - (i + 1))))) n

pub sweep_ends : (starts targets : List ℕ) (i count : ℕ) (all : Option Refusal) → count ≤ i → wrong_from starts targets i (8 * (count - i)) ≡ all → all ≡ None
unfolding first
sweep_ends starts targets i count all h e =
    let z : 8 * (count - i) ≡ 0 = omega arith in
    sym e ∙ ap (wrong_from starts targets i) z
