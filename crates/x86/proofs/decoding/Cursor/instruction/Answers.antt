use Rattle.std.proofs.Common.{◌∙◌}
use Rattle.x86.proofs.Opcode.{one_byte}
use Rattle.x86.proofs.decoding.Cursor.instruction.Goals as goal

pub returns-clause-value : goal.returns-clause-value
returns-clause-value g c =
    let n = c.byte-opcode.ensures.next in
    (rw n at c.formed-2.ensures.value)
    ∙ one_byte (g.C.Code.bytes c.args.self.now.code.now) c.args.self.now.at c.byte-opcode.result _ _ c.byte-opcode.ensures.value c.if-opcode-eq15.false c.in_ok-form-2.ensures
