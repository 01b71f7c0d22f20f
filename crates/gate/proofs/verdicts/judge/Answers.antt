use Rattle.gate.proofs.Exactly.{exactly}
use Rattle.gate.proofs.verdicts.judge.Goals as goal

pub returns-clause-policy : goal.returns-clause-policy
returns-clause-policy g c =
    exactly (g.C.Code.bytes c.args.code.now) c.args.row _ _ _ c.image_octets.ensures c.checked.ensures.value
