use Rattle.std.proofs.Common.{◌≡◌, ◌+◌, drop, ap, ◌∙◌, sym, arith}
use Rattle.memory.specs.Ranges.{write_of}
use Rattle.memory.proofs.Writes.{turn_ok, turn_inside}
use Rattle.memory.proofs.ranges.write.Goals as goal

pub loop-i-preserved : goal.loop-i-preserved
loop-i-preserved g c =
    let m = g.M.Memory.meaning c.loop-i.memory in
    let n = g.M.Memory.meaning c.put.new.self in
    let a = c.args.base + c.loop-i.i in
    let next : a + 1 ≡ c.args.base + (c.loop-i.i + 1) = omega arith in
    let h = turn_inside m n a _ c.put.result c.in_ok-put.field-0 (g.met.M.Memory.valid c.loop-i.memory) c.in_ok-put.was c.put.ensures in (
      ap (λ b. write_of n b (drop (c.loop-i.i + 1) c.args.bytes.now)) (sym next)
          ∙ turn_ok m n a c.loop-i.i c.args.bytes.now _ c.put.result c.in_ok-put.field-0 c.in_ok-put.was c.loop-i-test.true c.loop-i.invariant.0 c.put.ensures,
      omega (arith, h),
    )
