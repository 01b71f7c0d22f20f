use Rattle.std.proofs.Common.{◌≡◌, ℕ, ◌<◌, List, [], length, get_or, is_err, vec_items, sym, refl, ap, ◌∙◌, ⊎_elim, arith}
use Rattle.std.proofs.lemmas.List.{get_or_past}
use Rattle.std.proofs.lemmas.Bool.{cases_lt}
use Rattle.memory.specs.Meaning.{Octets}
use Rattle.memory.specs.Flats.{Kept}
use Rattle.memory.proofs.Flats.{checked_kept}
use Rattle.memory.proofs.flat.Flat.new.Goals as goal
use Rattle.memory.proofs.flat.Flat.new.Goals.{then-is_err, else-is_err}

none_kept : (xs : List ℕ) → xs ≡ [] → Kept xs
none_kept xs e = rw e refl

pub invariant_of-result-clause-fit : goal.invariant_of-result-clause-fit
invariant_of-result-clause-fit c =
    elim c.if-is_err.branch [
      | then-is_err w ↦ none_kept _ (ap vec_items w.bytes-is ∙ w.clear.ensures.items)
      | else-is_err w ↦
          let kept = checked_kept _ c.len.result (c.len.ensures ∙ c.args.bytes.ok.0) (ap is_err (sym c.check.ensures) ∙ sym w.if-is_err.ensures.value) in
          rw (ap vec_items w.bytes-is) kept
    ]

none_octets : (xs : List ℕ) → xs ≡ [] → Octets xs
none_octets xs e = rw e (λ k. omega arith)

octets_inside : (xs : List ℕ) → ((k : ℕ) → k < length xs → get_or xs k 0 < 256) → Octets xs
octets_inside xs inside k = ⊎_elim (inside k) (λ l. rw (get_or_past xs k 0 l) (omega arith)) (cases_lt k (length xs))

pub invariant_of-result-clause-octets : goal.invariant_of-result-clause-octets
invariant_of-result-clause-octets c =
    elim c.if-is_err.branch [
      | then-is_err w ↦ none_octets _ (ap vec_items w.bytes-is ∙ w.clear.ensures.items)
      | else-is_err w ↦ rw (ap vec_items w.bytes-is) (octets_inside c.args.bytes.items (λ k l. omega arith))
    ]
