use Rattle.std.proofs.Common.{◌/◌, sym, refl, ap, ◌∙◌}
use Rattle.gate.specs.Verdicts.{answer}
use Rattle.gate.proofs.Judging.{eights, marks_show, passed, found_after}
use Rattle.gate.proofs.walks.examine.Goals as goal

pub returns-clause-value : goal.returns-clause-value
returns-clause-value g c =
    let w = c.in_ok-walk.ensures in
    let i = c.args.image.now in
    let s = marks_show _ (i.size / 8) _ _ (eights _ _ i.whole i.fit) (w.starts refl) (w.targets refl) in
    c.compare.ensures ∙ ap answer (s ∙ sym (found_after _ c.args.row (passed _ w.value)))
