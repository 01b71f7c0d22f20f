-- A list of bytes that stands at a place of others.
use Rattle.std.proofs.Common.{◌≡◌, ℕ, suc, ◌+◌, ◌<◌, ◌≤◌, List, [], ◌∷◌, ◌++◌, length, get_or, take, drop, sym, refl, ap, ◌∙◌, subst, add-one, arith, length-drop, drop-cons}

-- e stands in bs from p on
abbrev pub Holds : List ℕ → ℕ → List ℕ → Type 0
Holds bs p [] = p ≤ length bs
Holds bs p (x ∷ e) = (get_or bs p 0 ≡ x) × Holds bs (p + 1) e

pub same_place : (bs e : List ℕ) (p q : ℕ) → p ≡ q → Holds bs p e → Holds bs q e
same_place bs e p q h k = subst (λ (p : ℕ). Holds bs p e) h k

pub holds_end : (bs e : List ℕ) (p : ℕ) → Holds bs p e → p + length e ≤ length bs
holds_end bs [] p h = omega arith
holds_end bs (x ∷ e) p h = omega (arith, holds_end bs e (p + 1) h.1)

pub holds_left : (bs e f : List ℕ) (p : ℕ) → Holds bs p (e ++ f) → Holds bs p e
holds_left bs [] f p h = omega (arith, holds_end bs f p h)
holds_left bs (x ∷ e) f p h = (h.0, holds_left bs e f (p + 1) h.1)

pub holds_right : (bs e f : List ℕ) (p : ℕ) → Holds bs p (e ++ f) → Holds bs (p + length e) f
holds_right bs [] f p h = same_place bs f p (p + 0) (omega arith) h
holds_right bs (x ∷ e) f p h = same_place bs f (p + 1 + length e) (p + suc (length e)) (omega arith) (holds_right bs e f (p + 1) h.1)

pub holds_join : (bs e f : List ℕ) (p : ℕ) → Holds bs p e → Holds bs (p + length e) f → Holds bs p (e ++ f)
holds_join bs [] f p h k = same_place bs f (p + 0) p (omega arith) k
holds_join bs (x ∷ e) f p h k = (h.0, holds_join bs e f (p + 1) h.1 (same_place bs f (p + suc (length e)) (p + 1 + length e) (omega arith) k))

inside : (bs f : List ℕ) (p x : ℕ) → drop p bs ≡ x ∷ f → p < length bs
inside bs f p x e = omega (arith, sym (length-drop p bs) ∙ ap length e)

pub holds_from : (bs e f : List ℕ) (p : ℕ) → p ≤ length bs → drop p bs ≡ e ++ f → Holds bs p e
holds_from bs [] f p h k = h
holds_from bs (x ∷ e) f p h k =
    let l : p < length bs = inside bs (e ++ f) p x k in
    let c : get_or bs p 0 ∷ drop (suc p) bs ≡ x ∷ (e ++ f) = sym (drop-cons bs p 0 l) ∙ k in
    let d : drop (suc p) bs ≡ e ++ f = cc in
    (cc, holds_from bs e f (p + 1) (omega arith) (rw add-one d))

-- as holds_from, for what has a byte
pub holds_some : (bs e f : List ℕ) (p x : ℕ) → drop p bs ≡ x ∷ (e ++ f) → Holds bs p (x ∷ e)
holds_some bs e f p x k = holds_from bs (x ∷ e) f p (omega (arith, inside bs (e ++ f) p x k)) k

pub holds_take : (bs e : List ℕ) (p : ℕ) → Holds bs p e → take (length e) (drop p bs) ≡ e
holds_take bs [] p h = refl
holds_take bs (x ∷ e) p h =
    let l : p < length bs = omega (arith, holds_end bs e (p + 1) h.1) in
    let r : take (length e) (drop (suc p) bs) ≡ e = rw add-one at (holds_take bs e (p + 1) h.1) in
    rw (drop-cons bs p 0 l) (rw r (ap (λ (y : ℕ). y ∷ e) h.0))
