-- Four bytes from the end of one number and the start of the next.
use Rattle.std.proofs.Common.{◌≡◌, ℕ, ◌+◌, ◌-◌, ◌*◌, ◌/◌, ◌%◌, ◌^◌, ◌<◌, ◌≤◌, List, get_or, ap, ◌∙◌, ⊎_elim, arith}
use lib.Bits.{bit_or}
use Rattle.std.proofs.lemmas.Nat.{or_comm, or_shifted}
use Rattle.std.proofs.lemmas.Bool.{cases_eq}
use Rattle.memory.specs.Data.{long_at}
use Rattle.memory.specs.Meaning.{Octets}

-- the end of `low` and the start of `high`, h of which is kept above k bits
put_together : (low high h k l : ℕ) → l < 2 ^ k → low ≡ l → high ≡ h * 2 ^ k → bit_or low high ≡ h * 2 ^ k + l
put_together low high h k l b e f = ap (λ x. bit_or x high) e ∙ (ap (bit_or l) f ∙ (or_comm l (h * 2 ^ k) ∙ or_shifted h k l b))

-- the last bytes of a number that is shifted down by k bytes, and the first of the next, shifted up
abbrev Joined : List ℕ → ℕ → ℕ → Type 0
Joined xs s k = bit_or (long_at xs s / 2 ^ (8 * k)) (long_at xs (s + 4) * 2 ^ (32 - 8 * k) % 2 ^ 32) ≡ long_at xs (s + k)

module _ (xs : List ℕ) (s : ℕ) (octets : Octets xs) where
  one : Joined xs s 1
  one =
      let a = octets s in let b = octets (s + 1) in let c = octets (s + 2) in let d = octets (s + 3) in let e = octets (s + 4) in
      let p : s + 1 + 1 ≡ s + 2 = omega arith in
      let q : s + 1 + 2 ≡ s + 3 = omega arith in
      let r : s + 1 + 3 ≡ s + 4 = omega arith in
      put_together (long_at xs s / 2 ^ (8 * 1)) (long_at xs (s + 4) * 2 ^ (32 - 8 * 1) % 2 ^ 32) (get_or xs (s + 4) 0) 24
      (get_or xs (s + 1) 0 + get_or xs (s + 2) 0 * 256 + get_or xs (s + 3) 0 * 65536)
      (omega arith) (omega arith) (omega arith)
      ∙ rw (p, q, r) (omega arith)

  two : Joined xs s 2
  two =
      let a = octets s in let b = octets (s + 1) in let c = octets (s + 2) in let d = octets (s + 3) in let e = octets (s + 4) in let f = octets (s + 4 + 1) in
      let p : s + 2 + 1 ≡ s + 3 = omega arith in
      let q : s + 2 + 2 ≡ s + 4 = omega arith in
      let r : s + 2 + 3 ≡ s + 4 + 1 = omega arith in
      put_together (long_at xs s / 2 ^ (8 * 2)) (long_at xs (s + 4) * 2 ^ (32 - 8 * 2) % 2 ^ 32) (get_or xs (s + 4) 0 + get_or xs (s + 4 + 1) 0 * 256) 16
      (get_or xs (s + 2) 0 + get_or xs (s + 3) 0 * 256)
      (omega arith) (omega arith) (omega arith)
      ∙ rw (p, q, r) (omega arith)

  three : Joined xs s 3
  three =
      let a = octets s in let b = octets (s + 1) in let c = octets (s + 2) in let d = octets (s + 3) in let e = octets (s + 4) in let f = octets (s + 4 + 1) in let g = octets (s + 4 + 2) in
      let p : s + 3 + 1 ≡ s + 4 = omega arith in
      let q : s + 3 + 2 ≡ s + 4 + 1 = omega arith in
      let r : s + 3 + 3 ≡ s + 4 + 2 = omega arith in
      put_together (long_at xs s / 2 ^ (8 * 3)) (long_at xs (s + 4) * 2 ^ (32 - 8 * 3) % 2 ^ 32)
      (get_or xs (s + 4) 0 + get_or xs (s + 4 + 1) 0 * 256 + get_or xs (s + 4 + 2) 0 * 65536) 8 (get_or xs (s + 3) 0)
      (omega arith) (omega arith) (omega arith)
      ∙ rw (p, q, r) (omega arith)

  pub across : (k : ℕ) → 1 ≤ k → k ≤ 3 → Joined xs s k
  across k l u =
      ⊎_elim (λ (e : k ≡ 1). rw e one)
      (λ (ne : k ≡ 1 → ⊥). ⊎_elim (λ (e : k ≡ 2). rw e two) (λ (nf : k ≡ 2 → ⊥). let e : k ≡ 3 = omega arith in rw e three) (cases_eq k 2))
      (cases_eq k 1)
