use Rattle.std.proofs.Common.{◌≡◌, ℕ, List, length, vec_items, Vec, sym, ap, ◌∙◌, arith}
use Rattle.std.specs.Vec.{with_items}
use Rattle.std.specs.declared.alloc.Global.{Global}
use Rattle.std.proofs.lemmas.List.{with_items_is}
use Rattle.memory.specs.Access.{laid}
use Rattle.memory.specs.Data.{parts}
use Rattle.memory.proofs.Flats.{flat_put, flat_put_none, laid_kept}
use Rattle.memory.proofs.Puts.{some_part, length_laid, put_outside}
use Rattle.memory.proofs.flat.access.FlatMemory.put.Goals as goal

module _ (v : Vec ℕ Global) (w : List ℕ) (a : ℕ) (bs : List ℕ) (e : w ≡ laid v.items a bs) where
  filled : (with_items v w).items ≡ laid v.items a bs
  filled = with_items_is v w (ap length e ∙ (length_laid bs v.items a ∙ sym v.ok.0)) ∙ e

pub invariant_of-self : goal.invariant_of-self
invariant_of-self c =
    let s = c.args.self.now in
    let e = c.lay.ensures.value ∙ ap (λ xs. laid xs c.args.address (parts c.args.datum)) c.as_mut_slice.ensures.value in
    let f = filled s.bytes c.lay.new.bytes c.args.address (parts c.args.datum) e in
    record {
      fit = rw f (laid_kept (vec_items s.bytes) (parts c.args.datum) c.args.address s.fit);
      octets = rw (f ∙ sym e) (c.lay.ensures.octets (rw c.as_mut_slice.ensures.value s.octets));
    }

pub returns-then-end-len : goal.returns-then-end-len
returns-then-end-len c =
    let s = c.args.self.now in
    let e = c.lay.ensures.value ∙ ap (λ xs. laid xs c.args.address (parts c.args.datum)) c.as_mut_slice.ensures.value in
    let f = filled s.bytes c.lay.new.bytes c.args.address (parts c.args.datum) e in
    rw f (flat_put (vec_items s.bytes) (parts c.args.datum) c.args.address s.fit (some_part c.args.datum) (omega (arith, s.bytes.ok.0)))

pub returns-then-end-size : goal.returns-then-end-size
returns-then-end-size c =
    let v = c.args.self.now.bytes in
    flat_put_none (vec_items v) (parts c.args.datum) c.args.address (omega (arith, v.ok.0)) (omega arith)

pub returns-else-end-size : goal.returns-else-end-size
returns-else-end-size c = sym (put_outside _ _ _ (omega arith))
