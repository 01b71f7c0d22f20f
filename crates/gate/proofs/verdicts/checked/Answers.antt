use Rattle.std.proofs.Common.{length, sym, ap, ◌∙◌, arith}
use Rattle.gate.specs.Walks.{is_start, is_target}
use Rattle.gate.proofs.Judging.{verdict_is, shown_is}
use Rattle.gate.proofs.verdicts.checked.Goals as goal

pub returns-clause-starts : goal.returns-clause-starts
returns-clause-starts g c =
    let i = c.in_ok-image.image in
    let bytes = g.C.Code.bytes c.args.code.now in
    let b = c.in_ok-image.ensures.1 in
    let s = i.whole ∙ ap length b in
    let v = verdict_is bytes c.args.row i.size (length c.args.starts.now) (length c.args.targets.now) s (sym i.fit) (omega (arith, c.len.ensures, c.if-len-count.false)) (omega (arith, c.len-else-len-count.ensures, c.if-len-count-2.false)) c.if-not-fits.ensures in
    shown_is bytes c.args.row (is_start bytes) i.size _ _ _ _ s v (rw b at c.settle.ensures.starts)

pub returns-clause-targets : goal.returns-clause-targets
returns-clause-targets g c =
    let i = c.in_ok-image.image in
    let bytes = g.C.Code.bytes c.args.code.now in
    let b = c.in_ok-image.ensures.1 in
    let s = i.whole ∙ ap length b in
    let v = verdict_is bytes c.args.row i.size (length c.args.starts.now) (length c.args.targets.now) s (sym i.fit) (omega (arith, c.len.ensures, c.if-len-count.false)) (omega (arith, c.len-else-len-count.ensures, c.if-len-count-2.false)) c.if-not-fits.ensures in
    shown_is bytes c.args.row (is_target bytes) i.size _ _ _ _ s v (rw b at c.settle.ensures.targets)
