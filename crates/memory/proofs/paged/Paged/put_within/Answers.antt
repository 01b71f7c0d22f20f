use Rattle.std.proofs.lemmas.Result.{err_from_is_err_and}
use Rattle.memory.specs.Data.{parts}
use Rattle.memory.specs.PagedView.{paged_view}
use Rattle.memory.proofs.Puts.{some_part}
use Rattle.memory.specs.declared.faults.MemoryFault.TheVariants.{NoFreePage}
use Rattle.memory.proofs.Steps.{refused, granted, within_ok, within_full}
use Rattle.memory.proofs.paged.Paged.put_within.Goals as goal

pub returns-in_err-frame : goal.returns-in_err-frame
returns-in_err-frame c =
    let p = err_from_is_err_and c.from_residual.result c.from_residual.ensures.1 in
    let q = refused c.hold.result (NoFreePage c.args.address) c.ok_or.result c.ok_or.ensures.value c.in_err-frame.field-0.0 p.0 c.from_residual.result c.in_err-frame.was p.1 p.2 in
    rw q.1
    (within_full (paged_view c.args.self.now) c.args.address (parts c.args.datum) (some_part c.args.datum) c.requires.inside c.requires.within
    (paged_view c.hold.new.self) c.hold.new.self.table (rw q.0 at c.hold.ensures))

pub returns : goal.returns
returns c =
    let q = granted c.hold.result (NoFreePage c.args.address) c.ok_or.result c.ok_or.ensures.value c.in_ok-frame.frame c.in_ok-frame.was in
    within_ok (paged_view c.args.self.now) c.args.address (parts c.args.datum) (some_part c.args.datum) c.requires.inside c.requires.within
    (paged_view c.hold.new.self) (paged_view c.write.new.self) c.hold.new.self.table c.in_ok-frame.frame (rw q at c.hold.ensures) c.write.ensures
