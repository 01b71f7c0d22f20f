-- Parts of a line by the characters that they are made of.
use Rattle.std.specs.Prelude.{◌≡◌, ℕ, ◌-◌, Bool, not, ◌||◌, List, length, take, ◌==◌}
use Rattle.std.specs.List.{prefix_len, suffix_len}

-- a space, a tab or a carriage return
abbrev pub is_blank : ℕ → Bool
is_blank c = c == 32 || (c == 9 || c == 13)

-- any other character is a part of a word
abbrev pub in_word : ℕ → Bool
in_word c = not (is_blank c)

-- any character but this one
abbrev pub is_not : ℕ → ℕ → Bool
is_not end c = not (c == end)

-- a closure answers what p says
abbrev pub Tests : (ℕ → Bool → Type 0) → (ℕ → Bool) → Type 0
Tests answers p = (c : ℕ) (b : Bool) → answers c b → b ≡ p c

-- a text without the blanks at its end
abbrev pub trimmed_of : List ℕ → List ℕ
trimmed_of text = take (length text - suffix_len is_blank text) text

-- what a line says: all before a comment, without the blanks at its end
abbrev pub content_of : List ℕ → List ℕ
content_of line = trimmed_of (take (prefix_len (is_not 35) line) line)
