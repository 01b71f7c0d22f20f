-- Bytes that are spelled as pairs of digits are read back.
use Rattle.std.proofs.Common.{◌≡◌, ℕ, ◌+◌, ◌*◌, ◌/◌, ◌%◌, ◌<◌, ◌≤◌, Bool, true, List, [], ◌∷◌, ◌++◌, length, take, drop, Ok, Result, sym, refl, ap, ◌∙◌, subst, arith}
use lib.Seq.{take-length, drop-length, append_snoc}
use Rattle.std.specs.List.{prefix_len, AllByRecursion}
use Rattle.std.proofs.lemmas.List.{append-nil}
use Rattle.std.proofs.lemmas.Bool.{cond-true, cond-false, not-true, le-leb, ne_eqb}
use Rattle.std.proofs.lemmas.Bool.Decides.{nat_tests}
use Rattle.script.specs.declared.problems.Problem.{Problem}
use Rattle.script.specs.Parts.{is_blank, in_word, is_not}
use Rattle.script.specs.Words.{led, words_of}
use Rattle.script.specs.Groups.{byte_of, pairs_of, repeated_of, count_of, digit_count, group_of, groups_of, bytes_of}
use Rattle.script.specs.Outcomes.{Answers}
use Rattle.script.specs.Spelled.{character, spelling, ReadsBytes}
use Rattle.script.proofs.Outcomes.{goes_on}
use Rattle.script.proofs.Spellings.{digit_character}

leading_all : (p : ℕ → Bool) (xs : List ℕ) → AllByRecursion (λ c. p c ≡ true) xs → prefix_len p xs ≡ length xs
leading_all p [] u = refl
leading_all p (x ∷ xs) u = cond-true _ _ _ u.0 ∙ omega (arith, leading_all p xs u.1)

in_letters : (d : ℕ) → d < 16 → in_word (character d) ≡ true
in_letters d h = grind (arith, nat_tests)

in_digits : (d : ℕ) → d < 16 → is_not 42 (character d) ≡ true
in_digits d h = grind (arith, nat_tests)

all_spelled : (p : ℕ → Bool) → ((d : ℕ) → d < 16 → p (character d) ≡ true) → (bs : List ℕ) → AllByRecursion (λ b. b < 256) bs → AllByRecursion (λ c. p c ≡ true) (spelling bs)
all_spelled p f [] u = tt
all_spelled p f (b ∷ bs) u = let h : b < 256 = u.0 in (f (b / 16) (omega arith), (f (b % 16) (omega arith), all_spelled p f bs u.1))

one_word : (c : ℕ) (cs : List ℕ) → AllByRecursion (λ c. in_word c ≡ true) (c ∷ cs) → words_of (c ∷ cs) ≡ (c ∷ cs) ∷ []
one_word c [] u = cond-false _ _ _ (not-true (is_blank c) u.0)
one_word c (d ∷ ds) u = cond-false _ _ _ (not-true (is_blank c) u.0) ∙ cond-true _ _ _ u.1.0 ∙ ap (led c) (one_word d ds u.1)

byte_spelled : (b : ℕ) → b < 256 → byte_of (character (b / 16)) (character (b % 16)) ≡ Ok b
byte_spelled b h =
    rw (digit_character (b / 16) (omega arith), digit_character (b % 16) (omega arith)) (ap Ok (omega arith))

pairs_spelled : (done bs : List ℕ) → AllByRecursion (λ b. b < 256) bs → pairs_of done (spelling bs) ≡ Ok (done ++ bs)
pairs_spelled done [] u = ap Ok (sym (append-nil done))
pairs_spelled done (b ∷ bs) u = goes_on _ _ b (byte_spelled b u.0) ∙ pairs_spelled (done ++ (b ∷ [])) bs u.1 ∙ ap Ok (append_snoc done b bs)

once : (bs : List ℕ) → length bs ≤ 1048576 → repeated_of [] bs 1 ≡ Ok bs
once bs h = cond-true _ _ _ (le-leb (0 + length bs * 1) 1048576 (omega arith)) ∙ ap Ok (append-nil bs)

-- a word that is all digits
group_plain : (text bs : List ℕ) → digit_count text ≡ length text → 0 < length text → pairs_of [] text ≡ Ok bs → length bs ≤ 1048576 → group_of [] text ≡ Ok bs
group_plain text bs e n p h =
    let front : take (digit_count text) text ≡ text = ap (λ (k : ℕ). take k text) e ∙ take-length text in
    let back : drop (digit_count text) text ≡ [] = ap (λ (k : ℕ). drop k text) e ∙ drop-length text in
    cond-false _ _ _ (ne_eqb (digit_count text) 0 (λ z. omega (arith, z, e)))
    ∙ goes_on (pairs_of [] (take (digit_count text) text)) _ bs (ap (pairs_of []) front ∙ p)
    ∙ goes_on (count_of (drop (digit_count text) text)) _ 1 (ap count_of back)
    ∙ once bs h

pub bytes_read : (bs : List ℕ) → AllByRecursion (λ b. b < 256) bs → length bs ≤ 1048576 → bytes_of (spelling bs) ≡ Ok bs
bytes_read [] u h = refl
bytes_read (b ∷ bs) u h =
    let text = spelling (b ∷ bs) in
    let digits = leading_all (is_not 42) text (all_spelled (is_not 42) in_digits (b ∷ bs) u) in
    ap (groups_of []) (one_word (character (b / 16)) (character (b % 16) ∷ spelling bs) (all_spelled in_word in_letters (b ∷ bs) u))
    ∙ goes_on (group_of [] text) (λ done. Ok done) (b ∷ bs) (group_plain text (b ∷ bs) digits (omega arith) (pairs_spelled [] (b ∷ bs) u) h)

pub reads_bytes : {V : Type 0} (items : V → List ℕ) (text : List ℕ) (r : Result V Problem) → Answers items (bytes_of text) r → ReadsBytes items text r
reads_bytes {V} items text r a =
    λ bs u h t. subst (λ (x : Result (List ℕ) Problem). Answers items x r) (ap bytes_of t ∙ bytes_read bs u h) a
