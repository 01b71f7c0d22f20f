use Rattle.std.proofs.lemmas.Result.{err_from_is_err_and}
use Rattle.memory.proofs.Copies.{turn_ok, turn_err}
use Rattle.memory.proofs.ranges.copy.Goals as goal

pub loop-i-preserved : goal.loop-i-preserved
loop-i-preserved g c =
    let l = c.loop-i in
    turn_ok (g.M.Memory.meaning c.args.memory.now) c.args.base l.i l.buffer c.args.buffer.now (g.met.M.Memory.valid c.args.memory.now)
    c.loop-i-test.true l.invariant.1 c.in_ok-byte.field-0 c.in_ok-byte.ensures

pub returns-in_err-byte : goal.returns-in_err-byte
returns-in_err-byte g c =
    let l = c.loop-i in
    let p = err_from_is_err_and c.from_residual.result c.from_residual.ensures.1 in
    turn_err (g.M.Memory.meaning c.args.memory.now) c.args.base l.i l.buffer c.args.buffer.now (g.met.M.Memory.valid c.args.memory.now)
    c.loop-i-test.true l.invariant.1 c.in_err-byte.field-0.0 p.0 c.from_residual.result l.invariant.0 p.1 p.2 c.in_err-byte.ensures
