-- The first word of a text is the first of its words.
use Rattle.std.proofs.Common.{◌≡◌, ℕ, ◌+◌, Bool, true, false, cond, eqb, ◌⊎◌, List, [], ◌∷◌, take, drop, Some, None, Option, sym, refl, ap, ◌∙◌, inl, inr, one-add, arith}
use Rattle.std.specs.List.{prefix_len}
use Rattle.std.proofs.lemmas.Bool.{cond-false, ne_eqb, not-true}
use Rattle.script.specs.Parts.{is_blank}
use Rattle.script.specs.Words.{rest_of, word_size, first_word, after_word, starts_word, led, words_of, listed}

-- blanks in front are no word
skip_one : (b : Bool) (c : ℕ) (cs : List ℕ) → is_blank c ≡ b → words_of (rest_of cs) ≡ words_of cs →
    words_of (drop (cond b (1 + prefix_len is_blank cs) 0) (c ∷ cs)) ≡ words_of (c ∷ cs)
skip_one true c cs e ih = rw (one-add, e) ih
skip_one false c cs e ih = refl

skips : (text : List ℕ) → words_of (rest_of text) ≡ words_of text
skips [] = refl
skips (c ∷ cs) = skip_one (is_blank c) c cs refl (skips cs)

-- after the blanks there is nothing, or a word
begin_one : (b : Bool) (c : ℕ) (cs : List ℕ) → is_blank c ≡ b → (rest_of cs ≡ []) ⊎ (starts_word (rest_of cs) ≡ true) →
    (drop (cond b (1 + prefix_len is_blank cs) 0) (c ∷ cs) ≡ []) ⊎ (starts_word (drop (cond b (1 + prefix_len is_blank cs) 0) (c ∷ cs)) ≡ true)
begin_one true c cs e ih = rw one-add ih
begin_one false c cs e ih = inr (rw e refl)

begins : (text : List ℕ) → (rest_of text ≡ []) ⊎ (starts_word (rest_of text) ≡ true)
begins [] = inl refl
begins (c ∷ cs) = begin_one (is_blank c) c cs refl (begins cs)

none_here : (text : List ℕ) → starts_word text ≡ false → word_size text ≡ 0
none_here [] e = refl
none_here (c ∷ cs) e = rw e refl

Front : List ℕ → Type 0
Front text = words_of text ≡ take (word_size text) text ∷ words_of (drop (word_size text) text)

-- a character before a text, by whether a word begins there
front_one : (s : Bool) (c : ℕ) (cs : List ℕ) → starts_word cs ≡ s → is_blank c ≡ false → (starts_word cs ≡ true → Front cs) → Front (c ∷ cs)
unfolding Front
front_one true c cs e b ih = rw (b, e, one-add) (ap (led c) (ih e))
front_one false c cs e b ih = rw (b, e, none_here cs e) refl

front : (text : List ℕ) → starts_word text ≡ true → Front text
front [] e = let z : ◌≡◌ {A = ℕ} 0 1 = cc in absurd (omega arith)
front (c ∷ cs) e = front_one (starts_word cs) c cs refl (not-true (is_blank c) e) (front cs)

some_size : (text : List ℕ) → starts_word text ≡ true → word_size text ≡ 0 → ⊥
some_size [] e z = let z : ◌≡◌ {A = ℕ} 0 1 = cc in omega arith
some_size (c ∷ cs) e z = let n : 1 + word_size cs ≡ 0 = rw e at z in omega arith

split_here : (text : List ℕ) → (text ≡ []) ⊎ (starts_word text ≡ true) →
    words_of text ≡ listed (cond (eqb (word_size text) 0) None (Some (take (word_size text) text))) (words_of (drop (word_size text) text))
unfolding Front
split_here [] h = refl
split_here (c ∷ cs) (inl e) = let z : ◌≡◌ {A = ℕ} 0 1 = cc in absurd (omega arith)
split_here (c ∷ cs) (inr e) =
    front (c ∷ cs) e ∙ sym (ap (λ o. listed o (words_of (drop (word_size (c ∷ cs)) (c ∷ cs)))) (cond-false _ _ _ (ne_eqb (word_size (c ∷ cs)) 0 (some_size (c ∷ cs) e))))

pub split : (text : List ℕ) → words_of text ≡ listed (first_word text) (words_of (after_word text))
split text = sym (skips text) ∙ split_here (rest_of text) (begins text)

pub split_as : (text after : List ℕ) (o : Option (List ℕ)) → o ≡ first_word text → after ≡ after_word text → words_of text ≡ listed o (words_of after)
split_as text after o e k =
    split text ∙ sym (ap (λ (p : Option (List ℕ)). listed p (words_of (after_word text))) e) ∙ sym (ap (λ (t : List ℕ). listed o (words_of t)) k)
