-- A memory with no page held.
use Rattle.memory.specs.ValidLemmas.{get_or_filled}
use Rattle.std.specs.Prelude.{◌≡◌, ℕ, ◌+◌, ◌/◌, ◌<◌, ◌≤◌, false, List, length, Ok, Err, Result, slice_index, refl}
use Rattle.std.proofs.Common.{sym, ap, ◌∙◌, arith}
use Rattle.std.proofs.lemmas.Bool.{lt-ltb, le-ltb, cond-true, cond-false}
use Rattle.memory.specs.Access.{Outcome, put_of, read_of, read_long_of}
use Rattle.memory.specs.Data.{long_at}
use Rattle.memory.specs.Meaning.{Octets, holds, blank_memory, unfit_memory}
use Rattle.memory.specs.declared.faults.MemoryFault.{MemoryFault}
use Rattle.memory.specs.declared.faults.MemoryFault.TheVariants.{NoFreePage}
use Rattle.memory.proofs.Puts.{put_full}

pub blank_size : (n k : ℕ) → (blank_memory n k).size ≡ n
unfolding blank_memory
blank_size n k = refl

pub blank_free : (n k : ℕ) → (blank_memory n k).free ≡ k
unfolding blank_memory
blank_free n k = refl

pub blank_byte : (n k a : ℕ) → slice_index (blank_memory n k).bytes a ≡ 0
unfolding blank_memory
blank_byte n k a = get_or_filled n a 0

pub blank_page : (n k p : ℕ) → holds (blank_memory n k) p ≡ false
unfolding blank_memory
blank_page n k p = get_or_filled (n / 256) p false

pub unfit_read : (a : ℕ) → a < 256 → ◌≡◌ {A = Result ℕ MemoryFault} (Ok 0) (read_of unfit_memory a)
unfit_read a h =
    sym (cond-true _ _ _ (lt-ltb a unfit_memory.size (rw (blank_size 256 0) h)) ∙ ap Ok (blank_byte 256 0 a))

unfit_long : (a : ℕ) → long_at unfit_memory.bytes a ≡ 0
unfit_long a = rw (blank_byte 256 0 a, blank_byte 256 0 (a + 1), blank_byte 256 0 (a + 2), blank_byte 256 0 (a + 3))

pub unfit_read_long : (a : ℕ) → a + 4 ≤ 256 → ◌≡◌ {A = Result ℕ MemoryFault} (Ok 0) (read_long_of unfit_memory a)
unfit_read_long a h =
    sym (cond-false _ _ _ (le-ltb unfit_memory.size (a + 4) (rw (blank_size 256 0) h)) ∙ ap Ok (unfit_long a))

pub unfit_put : (a : ℕ) (bs : List ℕ) → a + length bs ≤ 256 → ◌≡◌ {A = Outcome} (Err (NoFreePage a), unfit_memory) (put_of unfit_memory a bs)
unfit_put a bs h =
    sym (put_full unfit_memory a bs (rw (blank_size 256 0) h) (rw (blank_free 256 0, blank_page 256 0 (a / 256)) (omega arith)))

pub zero_octets : (xs : List ℕ) → ((k : ℕ) → slice_index xs k ≡ 0) → Octets xs
zero_octets xs zeros k = rw (zeros k) (omega arith)
