-- The equation carries the two laws over to the answer.
use Rattle.std.proofs.Common.{◌≡◌, take, drop, sym, ◌∙◌, subst}
use Rattle.x86.specs.declared.instructions.Decoded.{Decoded}
use Rattle.x86.specs.Grammar.{Encodes}
use Rattle.x86.proofs.Meets.{every_encoding, only_encodings}
use Rattle.x86.proofs.decoding.decode.Goals as goal

pub returns-clause-every : goal.returns-clause-every
returns-clause-every g c i e after s k =
    c.in_ok-decoded.ensures.value ∙ every_encoding (g.C.Code.bytes c.args.code.now) c.args.at i e after s k

pub returns-clause-only : goal.returns-clause-only
returns-clause-only g c d e =
    let y : c.in_ok-decoded.decoded ≡ d = cc in
    subst (λ (d : Decoded). Encodes d.instruction (take d.length (drop c.args.at (g.C.Code.bytes c.args.code.now)))) y
    (only_encodings (g.C.Code.bytes c.args.code.now) c.args.at c.in_ok-decoded.decoded c.octets.ensures (sym c.in_ok-decoded.ensures.value))

pub returns-in_err-decoded-clause-every : goal.returns-in_err-decoded-clause-every
returns-in_err-decoded-clause-every g c i e after s k =
    c.from_residual.ensures ∙ c.in_err-decoded.ensures.value ∙ every_encoding (g.C.Code.bytes c.args.code.now) c.args.at i e after s k
