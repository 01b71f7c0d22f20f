-- The three ways of a put, and when two meanings are the same.
use Rattle.std.specs.Prelude.{◌≡◌, ℕ, ◌+◌, ◌/◌, ◌<◌, ◌≤◌, Bool, List, [], ◌∷◌, length, Ok, Err, slice_set, refl}
use Rattle.std.proofs.Common.{ap, ◌∙◌, ⊎_elim, arith}
use Rattle.std.proofs.lemmas.List.{length-set, get_or-set_same, get_or-set_other, set_past}
use Rattle.std.proofs.lemmas.Bool.{cases_eq, cases_lt, le-ltb, lt-ltb, cond-false, cond-true}
use Rattle.memory.specs.Access.{Outcome, laid, lacking, last_page, stored, put_of}
use Rattle.memory.specs.Data.{parts}
use Rattle.memory.specs.Meaning.{Meaning, Octets}
use Rattle.memory.specs.declared.data.Datum.{Datum}
use Rattle.memory.specs.declared.data.Datum.TheVariants.{Byte, Long}
use Rattle.memory.specs.declared.faults.MemoryFault.TheVariants.{Outside, NoFreePage}

pub length_laid : (bs xs : List ℕ) (a : ℕ) → length (laid xs a bs) ≡ length xs
length_laid [] xs a = refl
length_laid (b ∷ bs) xs a = length_laid bs (slice_set xs a b) (a + 1) ∙ length-set xs a b

pub meaning_same : (m n : Meaning) → m.size ≡ n.size → m.bytes ≡ n.bytes → m.held ≡ n.held → m.free ≡ n.free → m ≡ n
meaning_same m n s b h f =
    let mk : ℕ → List ℕ → List Bool → ℕ → Meaning = λ s b h f. record { size = s; bytes = b; held = h; free = f } in
    ap (λ x. mk x m.bytes m.held m.free) s ∙ (ap (λ x. mk n.size x m.held m.free) b
    ∙ (ap (λ x. mk n.size n.bytes x m.free) h ∙ ap (λ x. mk n.size n.bytes n.held x) f))

pub some_part : (d : Datum) → 1 ≤ length (parts d)
some_part (Byte b) = omega arith
some_part (Long n) = omega arith

module _ (m : Meaning) (a : ℕ) (bs : List ℕ) where
  pub put_outside : m.size < a + length bs → ◌≡◌ {A = Outcome} (put_of m a bs) (Err (Outside a), m)
  unfolding put_of
  put_outside h = cond-true _ _ _ (lt-ltb m.size (a + length bs) h)

  pub put_full : a + length bs ≤ m.size → m.free < lacking m (a / 256) (last_page a (length bs)) → ◌≡◌ {A = Outcome} (put_of m a bs) (Err (NoFreePage a), m)
  unfolding put_of
  put_full h l =
      cond-false _ _ _ (le-ltb m.size (a + length bs) h)
      ∙ cond-true _ _ _ (lt-ltb m.free (lacking m (a / 256) (last_page a (length bs))) l)

  pub put_ok : a + length bs ≤ m.size → lacking m (a / 256) (last_page a (length bs)) ≤ m.free → ◌≡◌ {A = Outcome} (put_of m a bs) (Ok tt, stored m a bs)
  unfolding put_of
  put_ok h l =
      cond-false _ _ _ (le-ltb m.size (a + length bs) h)
      ∙ cond-false _ _ _ (le-ltb m.free (lacking m (a / 256) (last_page a (length bs))) l)

-- a byte written among bytes
pub set_octets : (xs : List ℕ) (a b : ℕ) → Octets xs → b < 256 → Octets (slice_set xs a b)
set_octets xs a b o h k =
    ⊎_elim
    (λ (l : a < length xs).
    ⊎_elim
    (λ (e : k ≡ a). rw (e, get_or-set_same xs a b 0 l) h)
    (λ (ne : k ≡ a → ⊥). rw (get_or-set_other xs a k b 0 ne) (o k))
    (cases_eq k a))
    (λ (l : length xs ≤ a). rw (set_past xs a b l) (o k))
    (cases_lt a (length xs))
