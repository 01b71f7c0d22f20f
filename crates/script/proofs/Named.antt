-- A name that is none of the commands'.
use Rattle.std.proofs.Common.{◌≡◌, Bool, true, false, ℕ, List, [], ◌∷◌, codes, Some, Ok, Err, Option, Result, refl, sym, ap, ◌∙◌}
use Rattle.std.specs.Option.{option_map}
use Rattle.std.specs.Str.{bytes_eq}
use Rattle.std.proofs.lemmas.Bool.{cond-false, false_from_ne_true}
use Rattle.std.proofs.lemmas.Slice.Eq.{bytes_eq-Decides}
use Rattle.script.specs.declared.problems.Problem.TheVariants.{UnknownCommand}
use Rattle.script.specs.declared.commands.Command.{Command}
use Rattle.script.specs.declared.problems.Problem.{Problem}
use Rattle.script.specs.Outcomes.{Says, AnswersIf, and_then}
use Rattle.script.specs.Commands.{Request, request_of, ends_with, named_of, names_bytes, from_bytes, from_word}
use Rattle.script.specs.Words.{first_word, after_word, rest_of}

other : (name word : List ℕ) → (name ≡ word → ⊥) → bytes_eq name word ≡ false
other name word h = false_from_ne_true (bytes_eq name word) (λ e. h ((bytes_eq-Decides name word).0 e))

pub unknown : (name rest : List ℕ) → (name ≡ codes "module" → ⊥) → (name ≡ codes "list" → ⊥) → (name ≡ codes "row" → ⊥) → (name ≡ codes "gate" → ⊥) → (name ≡ codes "marks" → ⊥) → (name ≡ codes "memory" → ⊥) → (name ≡ codes "bytes" → ⊥) →
    named_of name rest ≡ Err UnknownCommand
unknown name rest m l r g k y b =
    cond-false _ _ _ (other name (codes "module") m)
    ∙ cond-false _ _ _ (other name (codes "list") l)
    ∙ cond-false _ _ _ (other name (codes "row") r)
    ∙ cond-false _ _ _ (other name (codes "gate") g)
    ∙ cond-false _ _ _ (other name (codes "marks") k)
    ∙ cond-false _ _ _ (other name (codes "memory") y)
    ∙ cond-false _ _ _ (other name (codes "bytes") b)

-- a command that takes nothing more
pub ends_alone : (command : Command) (rest : List ℕ) (r : Result Command Problem) → r ≡ ends_with command rest → Says request_of (ends_with (request_of command) rest) r
ends_alone command [] r e = rw e refl
ends_alone command (c ∷ cs) r e = rw e refl

-- under another name than a module's, memory is never wanting
pub unless_module : (name rest : List ℕ) (x : Result Request Problem) (r : Result Command Problem) → (name ≡ codes "module" → ⊥) → Says request_of x r → AnswersIf (names_bytes name rest) request_of x r
unless_module name rest x r h s = rw (other name (codes "module") h) s

-- a command, where one was named
pub some_ok : (b : Bool) (x : Result Request Problem) (v : Command) → AnswersIf b request_of x (Ok v) → AnswersIf b (option_map request_of) (and_then x (λ q. Ok (Some q))) (Ok (Some v))
some_ok true x v e = ap (λ (x : Result Request Problem). and_then x (λ q. Ok (Some q))) e
some_ok false x v e = ap (λ (x : Result Request Problem). and_then x (λ q. Ok (Some q))) e

pub some_err : (b : Bool) (x : Result Request Problem) (p : Problem) → AnswersIf b request_of x (Err p) → AnswersIf {V = Option Command} b (option_map request_of) (and_then x (λ q. Ok (Some q))) (Err p)
some_err true x p e = λ n. ap (λ (x : Result Request Problem). and_then x (λ q. Ok (Some q))) (e n)
some_err false x p e = ap (λ (x : Result Request Problem). and_then x (λ q. Ok (Some q))) e

-- the name and the rest are those of the text
pub of_text : (text name rest : List ℕ) (r : Result (Option Command) Problem) → first_word text ≡ Some name → rest ≡ rest_of (after_word text) →
    AnswersIf (names_bytes name rest) (option_map request_of) (and_then (named_of name rest) (λ q. Ok (Some q))) r →
    AnswersIf (from_bytes (first_word text) (rest_of (after_word text))) (option_map request_of) (from_word (first_word text) (rest_of (after_word text))) r
of_text text name rest r f e a = rw (f, sym e) a
