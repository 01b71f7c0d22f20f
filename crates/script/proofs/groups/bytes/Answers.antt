use Rattle.std.proofs.Common.{Ok, vec_items, rules}
use Rattle.script.specs.Groups.{bytes_of}
use Rattle.script.specs.Outcomes.{Answers}
use Rattle.script.proofs.Rereading.{reads_bytes}
use Rattle.script.proofs.groups.bytes.Goals as goal

pub returns-in_err-bytes-clause-spelled : goal.returns-in_err-bytes-clause-spelled
returns-in_err-bytes-clause-spelled c =
    let value : Answers vec_items (bytes_of c.args.text.now) c.from_residual.result = search rules in
    reads_bytes vec_items c.args.text.now c.from_residual.result value

pub returns-clause-spelled : goal.returns-clause-spelled
returns-clause-spelled c =
    let value : Answers vec_items (bytes_of c.args.text.now) (Ok c.loop-word.bytes) = search rules in
    reads_bytes vec_items c.args.text.now (Ok c.loop-word.bytes) value
