use Rattle.std.proofs.Common.{◌≡◌, ◌+◌, ◌-◌, sym, arith}
use Rattle.std.proofs.lemmas.List.{drop-drop}
use Rattle.memory.specs.Data.{parts}
use Rattle.memory.specs.declared.data.Datum.TheVariants.{Long}
use Rattle.memory.proofs.Laid.{laid_is}
use Rattle.memory.proofs.little_endian.lay.Goals as goal

pub returns-in-Long-clause-value : goal.returns-in-Long-clause-value
returns-in-Long-clause-value c =
    let four : c.args.at + 4 - c.args.at ≡ 4 = omega arith in
    let copied : c.copy_from_slice.new.self ≡ parts (Long c.in-Long.number) = cc in
    let h = rw c.in-Long.is at c.requires in
    rw (c.in-Long.is, four, copied, drop-drop 4 c.args.at c.args.bytes.now)
    (sym (laid_is (parts (Long c.in-Long.number)) c.args.bytes.now c.args.at h))
