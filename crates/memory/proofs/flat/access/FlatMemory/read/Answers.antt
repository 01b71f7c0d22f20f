use Rattle.std.proofs.Common.{vec_items, arith}
use Rattle.memory.proofs.Flats.{flat_read_none}
use Rattle.memory.proofs.flat.access.FlatMemory.read.Goals as goal

pub returns-then-address-size : goal.returns-then-address-size
returns-then-address-size c =
    let v = c.args.self.now.bytes in
    flat_read_none (vec_items v) c.args.address (omega (arith, v.ok.0)) (omega arith)
