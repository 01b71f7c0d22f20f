use Rattle.std.proofs.Common.{◌≡◌, codes, arith, rules}
use Rattle.std.proofs.lemmas.Slice.Eq.{text_from_reads}
use Rattle.script.specs.declared.commands.Command.TheVariants.{Marks}
use Rattle.script.proofs.Named.{unknown, ends_alone, unless_module}
use Rattle.script.proofs.commands.named.Goals as goal

pub returns-in-module : goal.returns-in-module
returns-in-module c =
    let e : c.args.name.now ≡ codes "module" = text_from_reads c.args.name.now (codes "module") (omega arith) (search rules) in
    rw e c.module.ensures

pub returns-in-marks : goal.returns-in-marks
returns-in-marks c =
    let e : c.args.name.now ≡ codes "marks" = text_from_reads c.args.name.now (codes "marks") (omega arith) (search rules) in
    rw e (ends_alone Marks c.args.rest.now c.alone-in-marks.result c.alone-in-marks.ensures)

pub returns-in-memory : goal.returns-in-memory
returns-in-memory c =
    let e : c.args.name.now ≡ codes "memory" = text_from_reads c.args.name.now (codes "memory") (omega arith) (search rules) in
    rw e c.memory.ensures

pub returns-in_default : goal.returns-in_default
returns-in_default c =
    unless_module c.args.name.now c.args.rest.now _ _ (λ e. grind (arith, e))
    (unknown c.args.name.now c.args.rest.now (λ e. grind (arith, e)) (λ e. grind (arith, e)) (λ e. grind (arith, e)) (λ e. grind (arith, e)) (λ e. grind (arith, e)) (λ e. grind (arith, e)) (λ e. grind (arith, e)))
