-- The lines of a listing, as text.
use Rattle.std.specs.Prelude.{ℕ, List, [], ◌++◌, Some, None, codes, decimal, Option}
use Rattle.x86.specs.declared.instructions.Decoded.{Decoded}
use Rattle.x86.specs.declared.pairs.Pair.{Pair as MaskedPair}
use Rattle.x86.specs.Decoded.{decoded_at}
use Rattle.x86.specs.Pairs.{pair_at}
use Rattle.syntax.specs.Instructions.{decoded_text, pair_text}
use Rattle.script.specs.Spelled.{spelling}
use Rattle.gate.specs.declared.elements.Kind.{Kind}
use Rattle.gate.specs.declared.elements.Kind.TheVariants.{Pair, Straight, Direct}

-- the word for a kind
abbrev pub kind_word_of : Kind → List ℕ
kind_word_of Pair = codes "pair"
kind_word_of Straight = codes "straight"
kind_word_of Direct = codes "direct"

abbrev pub pair_words : Option MaskedPair → List ℕ
pair_words None = []
pair_words (Some x) = pair_text x

abbrev pub form_words : ℕ → Option Decoded → List ℕ
form_words p None = []
form_words p (Some d) = decoded_text p d

-- the bytes of an element at p in Intel syntax
abbrev pub wording : Kind → ℕ → List ℕ → List ℕ
wording Pair p bs = pair_words (pair_at bs 0)
wording Straight p bs = form_words p (decoded_at bs 0)
wording Direct p bs = form_words p (decoded_at bs 0)

-- address, kind and bytes, and then the instruction
abbrev pub line_text : Kind → ℕ → List ℕ → List ℕ
line_text k p bs = decimal p ++ (codes " " ++ (kind_word_of k ++ (codes " " ++ (spelling bs ++ (codes ": " ++ wording k p bs)))))
