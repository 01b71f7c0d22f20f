-- Digits that are written out are read back.
use Rattle.std.proofs.Common.{◌≡◌, ℕ, ◌+◌, ◌*◌, ◌/◌, ◌%◌, ◌^◌, ◌<◌, ◌≤◌, false, List, [], ◌∷◌, ◌++◌, map, length, take, Some, Ok, codes, decimal, Result, sym, refl, ap, ◌∙◌, arith}
use Rattle.std.specs.Int.Digits.{AllBelowBase, number_from_digits, number_from_digits_after}
use Rattle.std.specs.Str.{bytes_eq}
use Rattle.std.proofs.lemmas.Int.Digits.{number_after_ge, number_push}
use Rattle.std.proofs.lemmas.Fmt.{decimal_by_steps}
use Rattle.std.proofs.ByRecursion.{All-push}
use Rattle.std.proofs.lemmas.List.{map_push, length-map, length_push}
use Rattle.std.proofs.lemmas.Bool.{cond-true, cond-false, lt-ltb, ne_eqb}
use Rattle.std.proofs.lemmas.Bool.Decides.{nat_tests}
use Rattle.script.specs.declared.problems.Problem.{Problem}
use Rattle.script.specs.Digits.{digit_of}
use Rattle.script.specs.Numbers.{grown_by, value_of, numeral_of, number_of}
use Rattle.script.specs.Spelled.{character, ReadsDecimal, ReadsHexadecimal}
use Rattle.script.proofs.Outcomes.{goes_on}

pub digit_character : (d : ℕ) → d < 16 → digit_of (character d) ≡ Some d
digit_character d h = grind (arith, nat_tests)

grows : (base v d : ℕ) → base ≤ 16 → d < base → v * base + d < 2 ^ 32 → grown_by base v (digit_of (character d)) ≡ Ok (v * base + d)
grows base v d b h k =
    ap (grown_by base v) (digit_character d (omega arith)) ∙ cond-true _ _ _ (lt-ltb d base h) ∙ cond-true _ _ _ (lt-ltb (v * base + d) (2 ^ 32) k)

-- digits, after others that spell v
spelled_value : (base : ℕ) → 0 < base → base ≤ 16 → (ds : List ℕ) (v : ℕ) → AllBelowBase base ds → number_from_digits_after base v ds < 2 ^ 32 →
    value_of base v (map character ds) ≡ Ok (number_from_digits_after base v ds)
spelled_value base p b [] v u h = refl
spelled_value base p b (d ∷ ds) v u h =
    let g = number_after_ge base (v * base + d) ds p in
    goes_on _ _ (v * base + d) (grows base v d b u.0 (omega (arith, g, h)))
    ∙ spelled_value base p b ds (v * base + d) u.1 h

-- at least one digit
pub numeral_spelled : (base : ℕ) → 0 < base → base ≤ 16 → (ds : List ℕ) → 0 < length ds → AllBelowBase base ds → number_from_digits base ds < 2 ^ 32 →
    numeral_of base (map character ds) ≡ Ok (number_from_digits base ds)
numeral_spelled base p b ds n u h =
    cond-false _ _ _ (ne_eqb (length (map character ds)) 0 (λ z. omega (arith, z, length-map ds character))) ∙ spelled_value base p b ds 0 u h

-- decimal digits do not begin with 0x
plain : (ds : List ℕ) → AllBelowBase 10 ds → bytes_eq (take 2 (map character ds)) (codes "0x") ≡ false
plain [] u = refl
plain (d ∷ []) u = grind (arith, nat_tests)
plain (d ∷ (e ∷ ds)) u = let h : e < 10 = u.1.0 in grind (arith, nat_tests)

decimal_spelled : (ds : List ℕ) → 0 < length ds → AllBelowBase 10 ds → number_from_digits 10 ds < 2 ^ 32 → number_of (map character ds) ≡ Ok (number_from_digits 10 ds)
decimal_spelled ds n u h = cond-false _ _ _ (plain ds u) ∙ numeral_spelled 10 (omega arith) (omega arith) ds n u h

pub hexadecimal_read : (ds : List ℕ) → 0 < length ds → AllBelowBase 16 ds → number_from_digits 16 ds < 2 ^ 32 → number_of (codes "0x" ++ map character ds) ≡ Ok (number_from_digits 16 ds)
hexadecimal_read ds n u h = numeral_spelled 16 (omega arith) (omega arith) ds n u h

-- the digits that spell a number, for what is written of it
Spells : ℕ → List ℕ → Type 0
Spells n text = (ds : List ℕ) × (text ≡ map character ds) × (0 < length ds) × AllBelowBase 10 ds × (number_from_digits 10 ds ≡ n)

low : (d : ℕ) → d < 10 → 48 + d ≡ character d
low d h = sym (cond-true _ _ _ (lt-ltb d 10 h))

one : (n : ℕ) → n < 10 → Spells n ((48 + n) ∷ [])
unfolding Spells
one n h = (n ∷ [], ap (λ (c : ℕ). c ∷ []) (low n h), omega arith, (h, tt), omega arith)

more : (n : ℕ) (text : List ℕ) → 10 ≤ n → Spells (n / 10) text → Spells n (text ++ ((48 + n % 10) ∷ []))
unfolding Spells
more n text h s =
    let d : n % 10 < 10 = omega arith in
    let v = number_push 10 s.0 (n % 10) in
    let e : text ++ ((48 + n % 10) ∷ []) ≡ map character (s.0 ++ (n % 10 ∷ [])) =
    ap (λ (t : List ℕ). t ++ ((48 + n % 10) ∷ [])) s.1 ∙ ap (λ (c : ℕ). map character s.0 ++ (c ∷ [])) (low (n % 10) d) ∙ sym (map_push character s.0 (n % 10)) in
    (s.0 ++ (n % 10 ∷ []), e, omega (arith, length_push s.0 (n % 10)), All-push _ s.0 (n % 10) s.3 d, omega (arith, v, s.4))

pub decimal_read : (n : ℕ) → n < 2 ^ 32 → number_of (decimal n) ≡ Ok n
unfolding Spells
decimal_read n h =
    let s = decimal_by_steps Spells one more n (omega arith) in
    ap number_of s.1 ∙ decimal_spelled s.0 s.2 s.3 (omega (arith, s.4)) ∙ ap Ok s.4

pub reads : (text : List ℕ) (r : Result ℕ Problem) → r ≡ number_of text → ReadsDecimal text r × ReadsHexadecimal text r
reads text r e = (λ n h t. e ∙ ap number_of t ∙ decimal_read n h, λ ds n u h t. e ∙ ap number_of t ∙ hexadecimal_read ds n u h)
