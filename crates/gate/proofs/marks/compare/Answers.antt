use Rattle.std.proofs.Common.{◌≡◌, ◌%◌, get_or, sym, ap, ◌∙◌, arith}
use Rattle.std.proofs.lemmas.Bool.{eq-eqb, ne_eqb, cond-true, cond-false}
use Rattle.gate.specs.Verdicts.{answer}
use Rattle.gate.proofs.Octet.{block_misses, byte_misses, sweep_starts, sweep_on, sweep_off, sweep_ends}
use Rattle.gate.proofs.marks.compare.Goals as goal
use Rattle.gate.proofs.marks.compare.Goals.{else-i-eq0-via-then-i-eq0+else-start-eq0, else-i-eq0-via-else-i-eq0, Joined-else-i-eq0}

-- past the first test, the address is no multiple of 32 without a mark
aligned : (c : Joined-else-i-eq0) → c.loop-i.i % 4 ≡ 0 → get_or c.args.starts.now c.loop-i.i 0 % 2 ≡ 0 → ⊥
aligned c = elim c.else-i-eq0.branch [ else-i-eq0-via-then-i-eq0+else-start-eq0 w ↦ λ _ e. w.if-start-eq0.false e | else-i-eq0-via-else-i-eq0 w ↦ λ e _. w.if-i-eq0.false e ]

pub loop-i-init : goal.loop-i-init
loop-i-init c = sweep_starts _ _ _

pub returns-then-start-eq0 : goal.returns-then-start-eq0
returns-then-start-eq0 c =
    sym (ap answer (sweep_off _ _ _ _ _ _ c.loop-i-test.true c.loop-i.invariant (block_misses _ _ _ c.if-i-eq0.true c.if-start-eq0.true)))

pub loop-i-preserved : goal.loop-i-preserved
loop-i-preserved c =
    let b = byte_misses _ _ _ (aligned (goal.at.loop-i-preserved c).Joined-else-i-eq0) (omega (arith, c.type_inv.starts c.loop-i.i)) (omega (arith, c.type_inv.targets c.loop-i.i)) in
    sweep_on _ _ _ _ _ c.loop-i-test.true c.loop-i.invariant (b ∙ cond-true _ _ _ (eq-eqb _ _ c.if-missing-ne0.false))

pub returns-then-missing-ne0 : goal.returns-then-missing-ne0
returns-then-missing-ne0 c =
    let b = byte_misses _ _ _ (aligned (goal.at.returns-then-missing-ne0 c).Joined-else-i-eq0) (omega (arith, c.type_inv.starts c.loop-i.i)) (omega (arith, c.type_inv.targets c.loop-i.i)) in
    sym (ap answer (sweep_off _ _ _ _ _ _ c.loop-i-test.true c.loop-i.invariant (b ∙ cond-false _ _ _ (ne_eqb _ _ c.if-missing-ne0.true))))

pub returns : goal.returns
returns c = sym (ap answer (sweep_ends _ _ _ _ _ c.loop-i-test.false c.loop-i.invariant))
