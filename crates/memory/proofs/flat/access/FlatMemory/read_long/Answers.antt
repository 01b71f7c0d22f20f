use Rattle.std.proofs.Common.{vec_items, arith}
use Rattle.memory.proofs.Flats.{flat_read_long_none}
use Rattle.memory.proofs.flat.access.FlatMemory.read_long.Goals as goal

pub returns-then-at-size : goal.returns-then-at-size
returns-then-at-size c =
    let v = c.args.self.now.bytes in
    flat_read_long_none (vec_items v) c.args.address (omega (arith, v.ok.0)) (omega arith)
