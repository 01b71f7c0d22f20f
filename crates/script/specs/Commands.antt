-- The command that a line asks for.
use Rattle.std.specs.Prelude.{◌≡◌, ℕ, Bool, true, false, cond, not, ◌&&◌, List, [], ◌∷◌, ◌++◌, take, drop, Some, None, Ok, Err, vec_items, codes, Option, Result, nat_le}
use Rattle.std.specs.Str.{bytes_eq}
use Rattle.script.specs.declared.commands.Command.{Command}
use Rattle.script.specs.declared.commands.Command.TheVariants as command
use Rattle.script.specs.declared.problems.Problem.{Problem}
use Rattle.script.specs.declared.problems.Problem.TheVariants.{UnknownCommand, NoNumber, MissingPath, TooManyWords, NoMemoryKind, TooManyShown}
use Rattle.script.specs.Groups.{bytes_of}
use Rattle.script.specs.Numbers.{number_of}
use Rattle.script.specs.Outcomes.{and_then}
use Rattle.script.specs.Parts.{is_blank, content_of}
use Rattle.script.specs.Words.{rest_of, first_word, after_word}

-- a command, with its bytes and its path as lists
pub data Request : Type 0 where
  bytes : List ℕ → Request
  file : List ℕ → Request
  listing : Request
  row : ℕ → ℕ → Request
  gate : Request
  gate_fresh : ℕ → ℕ → Request
  marks : Request
  flat_memory : ℕ → Request
  paged_memory : ℕ → ℕ → Request
  shown_bytes : ℕ → ℕ → Request

-- what a command stands for
abbrev pub request_of : Command → Request
request_of (command.Module v) = bytes (vec_items v)
request_of (command.ModuleFile path) = file path.now
request_of command.List = listing
request_of (command.Row base count) = row base count
request_of command.Gate = gate
request_of (command.GateFresh starts targets) = gate_fresh starts targets
request_of command.Marks = marks
request_of (command.FlatMemory size) = flat_memory size
request_of (command.PagedMemory size frames) = paged_memory size frames
request_of (command.Bytes address count) = shown_bytes address count

-- a path has at least one character
abbrev pub path_of : List ℕ → Result Request Problem
path_of [] = Err MissingPath
path_of (c ∷ cs) = Ok (file (c ∷ cs))

-- after the word module: an @ and a path, or bytes
abbrev pub module_of : List ℕ → Result Request Problem
module_of rest = cond (bytes_eq (take 1 rest) (codes "@")) (path_of (drop 1 rest)) (and_then (bytes_of rest) (λ bs. Ok (bytes bs)))

-- the number that a word is, if there is a word
abbrev pub number_in : Option (List ℕ) → Result ℕ Problem
number_in None = Err NoNumber
number_in (Some word) = number_of word

-- what was read, if nothing more stands there
abbrev pub ends_with : {X : Type 0} → X → List ℕ → Result X Problem
ends_with x [] = Ok x
ends_with x (c ∷ cs) = Err TooManyWords

-- one number and nothing more
abbrev pub one_number_of : List ℕ → Result ℕ Problem
one_number_of text = and_then (number_in (first_word text)) (λ a. ends_with a (rest_of (after_word text)))

-- two numbers and nothing more
abbrev pub two_numbers_of : List ℕ → Result (ℕ × ℕ) Problem
two_numbers_of text =
    and_then (number_in (first_word text)) (λ a. and_then (number_in (first_word (after_word text))) (λ b. ends_with (a, b) (rest_of (after_word (after_word text)))))

-- after the word row: base and count
abbrev pub row_of : List ℕ → Result Request Problem
row_of rest = and_then (two_numbers_of rest) (λ x. Ok (row x.0 x.1))

-- after the word gate: nothing, or the sizes of two marks buffers
abbrev pub gate_of : List ℕ → Result Request Problem
gate_of [] = Ok gate
gate_of (c ∷ cs) = and_then (two_numbers_of (c ∷ cs)) (λ x. Ok (gate_fresh x.0 x.1))

-- after the words memory flat: a size
abbrev pub flat_of : List ℕ → Result Request Problem
flat_of rest = and_then (one_number_of rest) (λ size. Ok (flat_memory size))

-- after the words memory paged: a size and how many frames
abbrev pub paged_of : List ℕ → Result Request Problem
paged_of rest = and_then (two_numbers_of rest) (λ x. Ok (paged_memory x.0 x.1))

-- a memory by the name of its kind and what stands after it
abbrev pub kind_of : List ℕ → List ℕ → Result Request Problem
kind_of name rest = cond (bytes_eq name (codes "flat")) (flat_of rest) (cond (bytes_eq name (codes "paged")) (paged_of rest) (Err NoMemoryKind))

-- a first word is the name of a kind
abbrev pub from_kind : Option (List ℕ) → List ℕ → Result Request Problem
from_kind None rest = Err NoMemoryKind
from_kind (Some name) rest = kind_of name rest

-- after the word memory: a kind and its numbers
abbrev pub memory_of : List ℕ → Result Request Problem
memory_of rest = from_kind (first_word rest) (rest_of (after_word rest))

-- after the word bytes: an address and how many bytes, at most 65536
abbrev pub shown_of : List ℕ → Result Request Problem
shown_of rest = and_then (two_numbers_of rest) (λ x. cond (nat_le x.1 65536) (Ok (shown_bytes x.0 x.1)) (Err TooManyShown))

-- a command by its name and what stands after it
abbrev pub named_of : List ℕ → List ℕ → Result Request Problem
named_of name rest =
    cond (bytes_eq name (codes "module")) (module_of rest)
    (cond (bytes_eq name (codes "list")) (ends_with listing rest)
    (cond (bytes_eq name (codes "row")) (row_of rest)
    (cond (bytes_eq name (codes "gate")) (gate_of rest)
    (cond (bytes_eq name (codes "marks")) (ends_with marks rest)
    (cond (bytes_eq name (codes "memory")) (memory_of rest)
    (cond (bytes_eq name (codes "bytes")) (shown_of rest) (Err UnknownCommand)))))))

-- a first word is the name of a command, and without one there is none
abbrev pub from_word : Option (List ℕ) → List ℕ → Result (Option Request) Problem
from_word None rest = Ok None
from_word (Some name) rest = and_then (named_of name rest) (λ request. Ok (Some request))

-- the command that a line asks for, if it asks for one
abbrev pub command_of : List ℕ → Result (Option Request) Problem
command_of line = from_word (first_word (content_of line)) (rest_of (after_word (content_of line)))

-- after the word module: no @, so bytes
abbrev pub in_bytes : List ℕ → Bool
in_bytes rest = not (bytes_eq (take 1 rest) (codes "@"))

-- a name and what stands after it ask for a module in bytes
abbrev pub names_bytes : List ℕ → List ℕ → Bool
names_bytes name rest = bytes_eq name (codes "module") && in_bytes rest

-- so does a first word with that name
abbrev pub from_bytes : Option (List ℕ) → List ℕ → Bool
from_bytes None rest = false
from_bytes (Some name) rest = names_bytes name rest

-- a line asks for a module in bytes
abbrev pub asks_bytes : List ℕ → Bool
asks_bytes line = from_bytes (first_word (content_of line)) (rest_of (after_word (content_of line)))

-- a comment at the end of a line changes nothing
abbrev pub CommentUnread : List ℕ → Type 0
CommentUnread line = (text : List ℕ) → command_of (line ++ 35 ∷ text) ≡ command_of line

-- nor does a blank
abbrev pub BlankUnread : List ℕ → Type 0
BlankUnread line = (c : ℕ) → is_blank c ≡ true → command_of (line ++ (c ∷ [])) ≡ command_of line
