use Rattle.std.proofs.Common.{refl}
use Rattle.std.proofs.lemmas.Result.{err_from_is_err_and}
use Rattle.memory.specs.Data.{parts}
use Rattle.memory.specs.PagedView.{paged_view}
use Rattle.memory.specs.declared.data.Datum.TheVariants.{Long}
use Rattle.memory.specs.declared.faults.MemoryFault.TheVariants.{NoFreePage}
use Rattle.memory.proofs.Steps.{refused, granted, across_ok, across_full}
use Rattle.memory.proofs.paged.Paged.put_across.Goals as goal

pub returns-in_err-ok_or : goal.returns-in_err-ok_or
returns-in_err-ok_or c =
    let p = err_from_is_err_and c.from_residual.result c.from_residual.ensures.1 in
    let q = refused c.hold_both.result (NoFreePage c.args.address) c.ok_or.result c.ok_or.ensures.value c.in_err-ok_or.field-0.0 p.0 c.from_residual.result c.in_err-ok_or.was p.1 p.2 in
    rw q.1
    (across_full (paged_view c.args.self.now) c.args.address (parts (Long c.args.number)) refl c.requires.inside c.requires.across
    (paged_view c.hold_both.new.self) (rw q.0 at c.hold_both.ensures))

pub returns : goal.returns
returns c =
    let q = granted c.hold_both.result (NoFreePage c.args.address) c.ok_or.result c.ok_or.ensures.value c.in_ok-ok_or.field-0 c.in_ok-ok_or.was in
    across_ok (paged_view c.args.self.now) c.args.address (parts (Long c.args.number)) refl c.requires.inside c.requires.across
    (paged_view c.hold_both.new.self) (paged_view c.write_across.new.self) (rw q at c.hold_both.ensures) c.write_across.ensures
