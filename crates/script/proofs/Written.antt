-- Digits and bytes as text.
use Rattle.std.proofs.Common.{◌≡◌, ℕ, ◌+◌, ◌/◌, ◌%◌, ◌<◌, List, [], ◌∷◌, ◌++◌, length, get_or, take, sym, refl, ap, add-one, arith, take-suc, lt-ltb}
use lib.Utf8.{encode}
use Rattle.script.specs.Spelled.{character, spelling}

character_below : (n : ℕ) → n < 16 → character n < 128
character_below n h = search arith

-- a digit is one byte of text
pub digit_byte : (n : ℕ) → n < 16 → encode (character n) ≡ character n ∷ []
unfolding encode
digit_byte n h = let l : character n < 128 = character_below n h in rw (lt-ltb (character n) 128 l)

spelling_append : (xs ys : List ℕ) → spelling (xs ++ ys) ≡ spelling xs ++ spelling ys
spelling_append [] ys = refl
spelling_append (x ∷ xs) ys = ap (λ (t : List ℕ). character (x / 16) ∷ (character (x % 16) ∷ t)) (spelling_append xs ys)

-- one byte more
pub spelling_more : (xs : List ℕ) (i : ℕ) → i < length xs →
    spelling (take i xs) ++ (character (get_or xs i 0 / 16) ∷ (character (get_or xs i 0 % 16) ∷ [])) ≡ spelling (take (i + 1) xs)
spelling_more xs i h = sym (rw (add-one, take-suc xs i 0 h) (spelling_append (take i xs) (get_or xs i 0 ∷ [])))
