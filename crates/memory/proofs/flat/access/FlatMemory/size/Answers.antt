use Rattle.std.proofs.Common.{sym, ap, ◌∙◌, arith}
use Rattle.std.proofs.lemmas.Bool.{eqb-true}
use Rattle.memory.specs.Meaning.{Meaning}
use Rattle.memory.proofs.Blanks.{blank_size}
use Rattle.memory.proofs.Flats.{empty_means}
use Rattle.memory.proofs.flat.access.FlatMemory.size.Goals as goal

pub returns-then-is_empty : goal.returns-then-is_empty
returns-then-is_empty c =
    let v = c.args.self.now.bytes in
    let e = eqb-true v.len 0 (sym c.if-is_empty.ensures) in
    sym (ap (λ m. Meaning.size m) (empty_means v.items (omega (arith, v.ok.0))) ∙ blank_size 256 0)
