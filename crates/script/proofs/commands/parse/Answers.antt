use Rattle.std.proofs.Common.{◌≡◌, Some, Err, sym, rules}
use Rattle.script.specs.Commands.{named_of, names_bytes}
use Rattle.script.specs.Parts.{content_of}
use Rattle.script.specs.Words.{first_word, after_word, rest_of}
use Rattle.script.proofs.Named.{some_ok, some_err, of_text}
use Rattle.script.proofs.commands.parse.Goals as goal

pub returns-in_err-named-in-Some-clause-value : goal.returns-in_err-named-in-Some-clause-value
returns-in_err-named-in-Some-clause-value c =
    let f : first_word (content_of c.args.line.now) ≡ Some c.in-Some.name.now = search rules in
    let e : c.rest.result.now ≡ rest_of (after_word (content_of c.args.line.now)) = search rules in
    let q : c.from_residual.result ≡ Err c.in_err-named-in-Some.field-0.0 = search rules in
    rw q (of_text (content_of c.args.line.now) _ _ _ f e (some_err _ _ _ c.in_err-named-in-Some.ensures))

pub returns-in_ok-named-in-Some-clause-value : goal.returns-in_ok-named-in-Some-clause-value
returns-in_ok-named-in-Some-clause-value c =
    let f : first_word (content_of c.args.line.now) ≡ Some c.in-Some.name.now = search rules in
    let e : c.rest.result.now ≡ rest_of (after_word (content_of c.args.line.now)) = search rules in
    of_text (content_of c.args.line.now) _ _ _ f e (some_ok _ _ _ c.in_ok-named-in-Some.ensures)
