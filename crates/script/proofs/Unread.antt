-- What of a line is not read: a comment, and the blanks at its end.
use Rattle.std.proofs.Common.{◌≡◌, ℕ, ◌+◌, ◌-◌, Bool, true, false, cond, ◌⊎◌, List, [], ◌∷◌, ◌++◌, length, take, refl, ap, ◌∙◌, inl, inr, one-add, arith}
use Rattle.std.specs.List.{prefix_len, suffix_len}
use Rattle.std.proofs.lemmas.List.{reverse-append, length_push, take-append-le}
use Rattle.std.proofs.lemmas.Bool.{cond-true}
use Rattle.std.proofs.lemmas.Bool.Decides.{nat_tests}
use Rattle.script.specs.Parts.{is_blank, is_not, trimmed_of, content_of}
use Rattle.script.specs.Words.{rest_of, first_word, after_word}
use Rattle.script.specs.Commands.{from_word, command_of}

-- a line up to its comment
abbrev cut : List ℕ → List ℕ
cut line = take (prefix_len (is_not 35) line) line

-- one character more in front of two lines that have one cut
cut_more : (b : Bool) (c : ℕ) (left right : List ℕ) → cut left ≡ cut right →
    take (cond b (1 + prefix_len (is_not 35) left) 0) (c ∷ left) ≡ take (cond b (1 + prefix_len (is_not 35) right) 0) (c ∷ right)
cut_more true c left right e = rw (one-add, one-add) (ap (λ (cs : List ℕ). c ∷ cs) e)
cut_more false c left right e = refl

cut_comment : (line text : List ℕ) → cut (line ++ 35 ∷ text) ≡ cut line
cut_comment [] text = refl
cut_comment (c ∷ cs) text = cut_more (is_not 35 c) c (cs ++ 35 ∷ text) cs (cut_comment cs text)

-- a blank at the end of a line is at the end of what is cut, or not in it
Ends : List ℕ → ℕ → Type 0
Ends line c = (cut (line ++ (c ∷ [])) ≡ cut line) ⊎ (cut (line ++ (c ∷ [])) ≡ cut line ++ (c ∷ []))

ends_more : (b : Bool) (a : ℕ) (cs : List ℕ) (c : ℕ) → Ends cs c →
    (take (cond b (1 + prefix_len (is_not 35) (cs ++ (c ∷ []))) 0) (a ∷ (cs ++ (c ∷ []))) ≡ take (cond b (1 + prefix_len (is_not 35) cs) 0) (a ∷ cs))
    ⊎ (take (cond b (1 + prefix_len (is_not 35) (cs ++ (c ∷ []))) 0) (a ∷ (cs ++ (c ∷ []))) ≡ take (cond b (1 + prefix_len (is_not 35) cs) 0) (a ∷ cs) ++ (c ∷ []))
unfolding Ends
ends_more true a cs c (inl e) = inl (rw (one-add, one-add) (ap (λ (t : List ℕ). a ∷ t) e))
ends_more true a cs c (inr e) = inr (rw (one-add, one-add) (ap (λ (t : List ℕ). a ∷ t) e))
ends_more false a cs c h = inl refl

no_comment : (c : ℕ) → is_blank c ≡ true → is_not 35 c ≡ true
no_comment c h = grind (arith, nat_tests)

ends : (line : List ℕ) (c : ℕ) → is_blank c ≡ true → Ends line c
unfolding Ends
ends [] c h = inr (ap (λ (n : ℕ). take n (c ∷ [])) (cond-true _ _ _ (no_comment c h)))
ends (a ∷ cs) c h = ends_more (is_not 35 a) a cs c (ends cs c h)

ending_push : (text : List ℕ) (c : ℕ) → is_blank c ≡ true → suffix_len is_blank (text ++ (c ∷ [])) ≡ 1 + suffix_len is_blank text
ending_push text c h = ap (prefix_len is_blank) (reverse-append text (c ∷ [])) ∙ cond-true _ _ _ h

trim_push : (text : List ℕ) (c : ℕ) → is_blank c ≡ true → trimmed_of (text ++ (c ∷ [])) ≡ trimmed_of text
trim_push text c h =
    let n : length (text ++ (c ∷ [])) - suffix_len is_blank (text ++ (c ∷ [])) ≡ length text - suffix_len is_blank text =
    omega (arith, ending_push text c h, length_push text c) in
    ap (λ (k : ℕ). take k (text ++ (c ∷ []))) n ∙ take-append-le (length text - suffix_len is_blank text) text (c ∷ []) (omega arith)

content_push : (line : List ℕ) (c : ℕ) → is_blank c ≡ true → Ends line c → content_of (line ++ (c ∷ [])) ≡ content_of line
unfolding Ends
content_push line c h (inl e) = ap trimmed_of e
content_push line c h (inr e) = ap trimmed_of e ∙ trim_push (cut line) c h

-- the command is that of the content
command_content : (left right : List ℕ) → content_of left ≡ content_of right → command_of left ≡ command_of right
command_content left right e = ap (λ (t : List ℕ). from_word (first_word t) (rest_of (after_word t))) e

pub comment_unread : (line text : List ℕ) → command_of (line ++ 35 ∷ text) ≡ command_of line
comment_unread line text = command_content (line ++ 35 ∷ text) line (ap trimmed_of (cut_comment line text))

pub blank_unread : (line : List ℕ) (c : ℕ) → is_blank c ≡ true → command_of (line ++ (c ∷ [])) ≡ command_of line
blank_unread line c h = command_content (line ++ (c ∷ [])) line (content_push line c h (ends line c h))
