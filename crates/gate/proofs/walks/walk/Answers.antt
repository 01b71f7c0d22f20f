use Rattle.std.proofs.Common.{◌≡◌, ◌*◌, ◌/◌, ◌<◌, length, replicate, sym, ap, ◌∙◌, arith, rules}
use Rattle.gate.specs.Verdicts.{answer}
use Rattle.gate.proofs.Judging.{eights}
use Rattle.gate.proofs.Taken.{pair_taken, straight_taken, direct_taken, none_taken, target_of_pair, target_of_straight, target_of_direct}
use Rattle.gate.proofs.Turns.{walking_starts, walking_plain, walking_near, walking_entry, walking_far, walking_none, walking_ends, walking_same}
use Rattle.gate.proofs.walks.walk.Goals as goal
use Rattle.gate.proofs.walks.walk.Goals.{then-target-image, else-target-image+else-not-holds}

pub loop-at-init : goal.loop-at-init
loop-at-init g c =
    let s : c.fill.new.self ≡ replicate (c.args.image.now.size / 8) 0 = search rules in
    let t : c.fill-2.new.self ≡ replicate (c.args.image.now.size / 8) 0 = search rules in
    walking_starts _ _ _ _ _ s t

pub returns-in_default-length-2-clause-value : goal.returns-in_default-length-2-clause-value
returns-in_default-length-2-clause-value g c =
    let t = none_taken _ _ c.in_default.ensures.value c.in_default-length.ensures.value c.in_default-length-2.ensures.value in
    sym (ap answer (walking_none _ _ _ _ _ _ c.loop-at.invariant (omega (arith, c.args.image.now.whole, c.loop-at-test.true)) t))

pub returns-then-not-holds-clause-value : goal.returns-then-not-holds-clause-value
returns-then-not-holds-clause-value g c =
    let s = c.args.image.now.whole in
    let t = direct_taken _ _ _ c.in_default.ensures.value c.in_default-length.ensures.value c.in-Some-length-2.ensures.value in
    let d = target_of_direct _ _ _ t ∙ c.target-target.ensures.target (sym c.in-Some-length-2.ensures.value) in
    sym (ap answer (walking_far _ _ _ _ _ _ _ _ c.loop-at.invariant (omega (arith, s, c.loop-at-test.true)) t d (omega (arith, s, c.if-target-image.false)) (sym c.if-not-holds.ensures)))

pub loop-at-preserved-in-Some : goal.loop-at-preserved-in-Some
loop-at-preserved-in-Some g c =
    let bytes = g.C.Code.bytes c.args.image.now.code.now in
    let s = c.args.image.now.whole in
    let h : c.loop-at.at < length bytes = omega (arith, s, c.loop-at-test.true) in
    let l : length bytes ≡ 8 * (c.args.image.now.size / 8) = eights _ _ s c.args.image.now.fit in
    let t = pair_taken _ _ _ c.in-Some.ensures.value in
    walking_plain _ _ _ _ _ _ _ _ c.loop-at.invariant h l c.mark.ensures t c.in-Some.ensures.inside (target_of_pair _ _ _ t)

pub loop-at-preserved-in-Some-length : goal.loop-at-preserved-in-Some-length
loop-at-preserved-in-Some-length g c =
    let bytes = g.C.Code.bytes c.args.image.now.code.now in
    let s = c.args.image.now.whole in
    let h : c.loop-at.at < length bytes = omega (arith, s, c.loop-at-test.true) in
    let l : length bytes ≡ 8 * (c.args.image.now.size / 8) = eights _ _ s c.args.image.now.fit in
    let t = straight_taken _ _ _ c.in_default.ensures.value c.in-Some-length.ensures.value in
    walking_plain _ _ _ _ _ _ _ _ c.loop-at.invariant h l c.mark.ensures t c.in-Some-length.ensures.inside (target_of_straight _ _ _ t)

pub loop-at-preserved : goal.loop-at-preserved
loop-at-preserved g c =
    let bytes = g.C.Code.bytes c.args.image.now.code.now in
    let s = c.args.image.now.whole in
    let h : c.loop-at.at < length bytes = omega (arith, s, c.loop-at-test.true) in
    let l : length bytes ≡ 8 * (c.args.image.now.size / 8) = eights _ _ s c.args.image.now.fit in
    let t = direct_taken _ _ _ c.in_default.ensures.value c.in_default-length.ensures.value c.in-Some-length-2.ensures.value in
    let d = target_of_direct _ _ _ t ∙ c.target-target.ensures.target (sym c.in-Some-length-2.ensures.value) in
    let i = c.in-Some-length-2.ensures.inside in
    elim c.if-target-image.branch [
      | then-target-image w ↦ walking_near _ _ _ _ _ _ _ _ _ _ c.loop-at.invariant h l c.mark.ensures t i d (omega (arith, s, w.if-target-image.true)) (w.targets-is ∙ w.mark-then-target-image.ensures)
      | else-target-image+else-not-holds w ↦
          walking_same _ _ _ _ _ _ _ w.targets-is (walking_entry _ _ _ _ _ _ _ _ _ c.loop-at.invariant h l c.mark.ensures t i d (omega (arith, s, w.if-target-image.false)) (sym w.if-not-holds.ensures))
    ]

pub returns-clause-value : goal.returns-clause-value
returns-clause-value g c = sym (ap answer (walking_ends _ _ _ _ _ _ c.loop-at.invariant (omega (arith, c.args.image.now.whole, c.loop-at-test.false))).goes)

pub returns-clause-starts : goal.returns-clause-starts
returns-clause-starts g c _ = (walking_ends _ _ _ _ _ _ c.loop-at.invariant (omega (arith, c.args.image.now.whole, c.loop-at-test.false))).started

pub returns-clause-targets : goal.returns-clause-targets
returns-clause-targets g c _ = (walking_ends _ _ _ _ _ _ c.loop-at.invariant (omega (arith, c.args.image.now.whole, c.loop-at-test.false))).targeted
