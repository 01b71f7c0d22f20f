-- The words of a text.
use Rattle.std.specs.Prelude.{◌≡◌, ℕ, Bool, false, cond, not, List, [], ◌∷◌, take, drop, Some, None, Option, ◌==◌}
use Rattle.std.specs.List.{prefix_len}
use Rattle.script.specs.Parts.{is_blank, in_word}

-- a text from its first word on
abbrev pub rest_of : List ℕ → List ℕ
rest_of text = drop (prefix_len is_blank text) text

-- how long the word is that a text begins with
abbrev pub word_size : List ℕ → ℕ
word_size text = prefix_len in_word text

-- the first word of a text, where it has one
abbrev pub first_word : List ℕ → Option (List ℕ)
first_word text = cond (word_size (rest_of text) == 0) None (Some (take (word_size (rest_of text)) (rest_of text)))

-- what stands after the first word of a text
abbrev pub after_word : List ℕ → List ℕ
after_word text = drop (word_size (rest_of text)) (rest_of text)

-- does a text begin with a word
abbrev pub starts_word : List ℕ → Bool
starts_word [] = false
starts_word (c ∷ cs) = not (is_blank c)

-- a character in front of the first of some words
abbrev pub led : ℕ → List (List ℕ) → List (List ℕ)
led c [] = (c ∷ []) ∷ []
led c (word ∷ more) = (c ∷ word) ∷ more

-- all words of a text: characters with no blank between them are in one word
abbrev pub words_of : List ℕ → List (List ℕ)
words_of [] = []
words_of (c ∷ cs) = cond (is_blank c) (words_of cs) (cond (starts_word cs) (led c (words_of cs)) ((c ∷ []) ∷ words_of cs))

-- a word, where there is one, and then more
abbrev pub listed : Option (List ℕ) → List (List ℕ) → List (List ℕ)
listed None more = []
listed (Some word) more = word ∷ more

-- from one text a first word was taken, where it has one, and the other text is what stands after it
pub record TakesWord (text : List ℕ) (taken : Option (List ℕ)) (left : List ℕ) : Type 0 where
  pub word : taken ≡ first_word text
  pub after : left ≡ after_word text
  pub words : words_of text ≡ listed taken (words_of left)
