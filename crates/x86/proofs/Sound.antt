-- Whatever is read stands there as an encoding.
use Rattle.std.proofs.Common.{◌≡◌, ℕ, zero, suc, ◌+◌, ◌/◌, ◌%◌, ◌<◌, ◌≤◌, Bool, true, false, cond, eqb, leb, List, [], ◌∷◌, ◌++◌, length, get_or, Some, None, Option, sym, refl, ap, ◌∙◌, subst, arith, length-append, eqb-true, leb-false, leb-true}
use borrow.Author.Tests.{eqb-false}
use Rattle.std.specs.Option.{option_map}
use Rattle.x86.specs.declared.registers.Width.{Width}
use Rattle.x86.specs.declared.registers.Width.TheVariants.{Byte, Long}
use Rattle.x86.specs.declared.operands.Address.{Address}
use Rattle.x86.specs.declared.operands.Modrm.{Modrm}
use Rattle.x86.specs.declared.operands.RegisterOrMemory.TheVariants.{Register, Memory}
use Rattle.x86.specs.declared.instructions.Instruction.{Instruction}
use Rattle.x86.specs.declared.forms.Form.{Form}
use Rattle.x86.specs.declared.forms.Form.TheVariants.{Alone, WithImmediate, WithOperand, WithBoth}
use Rattle.x86.specs.Numbers.{register_of, width_bytes}
use Rattle.x86.specs.Meanings.{extended, alone_means, immediate_width, immediate_means, operand_means, both_width, both_means}
use Rattle.x86.specs.Decoded.{value_at, address, base_of, index_of, displacement_width_of, displacement_at, address_at, modrm, modrm_at, form_at}
use Rattle.x86.specs.Grammar.{Spells, byte, long, Displaces, not_at_all, by, fields, Bases, plain, absolute, near, far, Indexes, scaled_by, unscaled, Addresses, based, scaled, Names, register, memory, Follows, nothing, immediate, operand, both}
use Rattle.x86.specs.Octets.{Octets}
use Rattle.x86.proofs.Bytes.{Holds, same_place, holds_join}

-- what P says of stands from p up to q
pub record Stands (P : List ℕ → Type 0) (bs : List ℕ) (p q : ℕ) : Type 0 where
  pub part : List ℕ
  pub is : P part
  pub there : Holds bs p part
  pub ends : p + length part ≡ q

stands_as : (P Q : List ℕ → Type 0) (bs : List ℕ) (p q : ℕ) → ((e : List ℕ) → P e → Q e) → Stands P bs p q → Stands Q bs p q
stands_as P Q bs p q f s = record { part = s.part; is = f s.part s.is; there = s.there; ends = s.ends }

-- the numbers from a up to z are bytes, and z lies inside: what is read between is read whole
pub record Between (bs : List ℕ) (a z : ℕ) : Type 0 where
  pub octets : Octets bs a z
  pub inside : z ≤ length bs

pub value_stands : (w : Width) (bs : List ℕ) (a z p : ℕ) → Between bs a z → a ≤ p → p + width_bytes w ≤ z → Stands (Spells w (value_at w bs p)) bs p (p + width_bytes w)
value_stands Byte bs a z p o l h = record { part = get_or bs p 0 ∷ []; is = byte (get_or bs p 0) (o.octets p l (omega arith)); there = (refl, omega (arith, o.inside)); ends = omega arith }
value_stands Long bs a z p o l h =
    record {
      part = get_or bs p 0 ∷ (get_or bs (p + 1) 0 ∷ (get_or bs (p + 2) 0 ∷ (get_or bs (p + 3) 0 ∷ [])));
      is =
          subst (λ (v : ℕ). Spells Long v (get_or bs p 0 ∷ (get_or bs (p + 1) 0 ∷ (get_or bs (p + 2) 0 ∷ (get_or bs (p + 3) 0 ∷ []))))) (omega arith)
          (long (get_or bs p 0) (get_or bs (p + 1) 0) (get_or bs (p + 2) 0) (get_or bs (p + 3) 0) (o.octets p l (omega arith)) (o.octets (p + 1) (omega arith) (omega arith)) (o.octets (p + 2) (omega arith) (omega arith)) (o.octets (p + 3) (omega arith) (omega arith)));
      there = (refl, (refl, (ap (λ (q : ℕ). get_or bs q 0) (omega arith), (ap (λ (q : ℕ). get_or bs q 0) (omega arith), omega (arith, o.inside)))));
      ends = omega arith;
    }

pub displacement_stands : (w : Option Width) (bs : List ℕ) (a z p : ℕ) → Between bs a z → a ≤ p → (displacement_at w bs p).1 ≤ z →
    Stands (Displaces w (displacement_at w bs p).0) bs p (displacement_at w bs p).1
displacement_stands None bs a z p o l h = record { part = []; is = not_at_all; there = omega (arith, o.inside); ends = omega arith }
displacement_stands (Some w) bs a z p o l h =
    stands_as (Spells w (value_at w bs p)) (Displaces (Some w) (Some (extended w (value_at w bs p)))) bs p (p + width_bytes w) (λ e s. by w (value_at w bs p) e s) (value_stands w bs a z p o l h)

-- a byte is its three fields
pub by_fields : (x : ℕ) → x ≡ fields (x / 64) ((x / 8) % 8) (x % 8)
by_fields x = omega arith

mod_zero : (n : ℕ) → n < 8 → (t : Bool) → eqb n 5 ≡ t → Bases 0 n (cond t None (Some (register_of n))) (cond t (Some Long) None)
mod_zero n k true e = subst (λ (n : ℕ). Bases 0 n None (Some Long)) (sym (eqb-true n 5 e)) absolute
mod_zero n k false e = plain n k (eqb-false n 5 e)

-- the decoder's base and displacement are a row of the table
base_is : (m n : ℕ) → m < 3 → n < 8 → Bases m n (base_of m n) (displacement_width_of m n)
base_is zero n h k = mod_zero n k (eqb n 5) refl
base_is (suc zero) n h k = near n k
base_is (suc (suc zero)) n h k = far n k
base_is (suc (suc (suc m))) n h k = absurd (omega arith)

index_is : (s i : ℕ) (t : Bool) → s < 4 → i < 8 → eqb i 4 ≡ t → Indexes s i (cond t None (Some (register_of i)))
index_is s i true hs hi e = subst (λ (i : ℕ). Indexes s i None) (sym (eqb-true i 4 e)) (unscaled s hs)
index_is s i false hs hi e = scaled_by s i hs hi (eqb-false i 4 e)

abbrev address_by : List ℕ → ℕ → ℕ → ℕ → Bool → Address × ℕ
address_by bs p m n t =
    cond t (
      address (base_of m (get_or bs p 0 % 8)) (Some (index_of (get_or bs p 0 / 64) ((get_or bs p 0 / 8) % 8))) (displacement_at (displacement_width_of m (get_or bs p 0 % 8)) bs (p + 1)).0,
      (displacement_at (displacement_width_of m (get_or bs p 0 % 8)) bs (p + 1)).1,
    )
    (address (base_of m n) None (displacement_at (displacement_width_of m n) bs p).0, (displacement_at (displacement_width_of m n) bs p).1)

-- nothing ends before it begins
displacement_after : (w : Option Width) (bs : List ℕ) (p : ℕ) → p ≤ (displacement_at w bs p).1
displacement_after None bs p = omega arith
displacement_after (Some w) bs p = omega arith

address_after : (bs : List ℕ) (p m n : ℕ) (t : Bool) → p ≤ (address_by bs p m n t).1
address_after bs p m n true = omega (arith, displacement_after (displacement_width_of m (get_or bs p 0 % 8)) bs (p + 1))
address_after bs p m n false = displacement_after (displacement_width_of m n) bs p

address_by_lem : (bs : List ℕ) (a z p m n : ℕ) (t : Bool) → Between bs a z → a ≤ p → m < 3 → n < 8 → eqb n 4 ≡ t → (address_by bs p m n t).1 ≤ z →
    Stands (Addresses m n (address_by bs p m n t).0) bs p (address_by bs p m n t).1
address_by_lem bs a z p m n true o l hm hn e h =
    let x : ℕ = get_or bs p 0 in
    let s = displacement_stands (displacement_width_of m (get_or bs p 0 % 8)) bs a z (p + 1) o (omega arith) h in
    let b : get_or bs p 0 < 256 = o.octets p l (omega (arith, displacement_after (displacement_width_of m (get_or bs p 0 % 8)) bs (p + 1))) in
    record {
      part = fields (get_or bs p 0 / 64) ((get_or bs p 0 / 8) % 8) (get_or bs p 0 % 8) ∷ s.part;
      is =
          subst (λ (n : ℕ). Addresses m n (address_by bs p m n true).0 (fields (get_or bs p 0 / 64) ((get_or bs p 0 / 8) % 8) (get_or bs p 0 % 8) ∷ s.part)) (sym (eqb-true n 4 e))
          (scaled m (get_or bs p 0 / 64) ((get_or bs p 0 / 8) % 8) (get_or bs p 0 % 8) (base_of m (get_or bs p 0 % 8)) (index_of (get_or bs p 0 / 64) ((get_or bs p 0 / 8) % 8)).register (displacement_width_of m (get_or bs p 0 % 8))
          (displacement_at (displacement_width_of m (get_or bs p 0 % 8)) bs (p + 1)).0 s.part (base_is m (get_or bs p 0 % 8) hm (omega arith))
          (index_is (get_or bs p 0 / 64) ((get_or bs p 0 / 8) % 8) (eqb ((get_or bs p 0 / 8) % 8) 4) (omega arith) (omega arith) refl) s.is);
      there = (by_fields (get_or bs p 0), s.there);
      ends = omega (arith, s.ends);
    }
address_by_lem bs a z p m n false o l hm hn e h =
    stands_as (Displaces (displacement_width_of m n) (displacement_at (displacement_width_of m n) bs p).0) (Addresses m n (address_by bs p m n false).0) bs p (displacement_at (displacement_width_of m n) bs p).1
    (λ q k. based m n (base_of m n) (displacement_width_of m n) (displacement_at (displacement_width_of m n) bs p).0 q (base_is m n hm hn) (eqb-false n 4 e) k)
    (displacement_stands (displacement_width_of m n) bs a z p o l h)

address_stands : (bs : List ℕ) (a z p m n : ℕ) → Between bs a z → a ≤ p → m < 3 → n < 8 → (address_at bs p m n).1 ≤ z → Stands (Addresses m n (address_at bs p m n).0) bs p (address_at bs p m n).1
address_stands bs a z p m n o l hm hn h = address_by_lem bs a z p m n (eqb n 4) o l hm hn refl h

abbrev modrm_by : List ℕ → ℕ → Bool → Modrm
modrm_by bs p t =
    cond t (modrm ((get_or bs p 0 / 8) % 8) (Register (get_or bs p 0 % 8)) (p + 1))
    (modrm ((get_or bs p 0 / 8) % 8) (Memory (address_at bs (p + 1) (get_or bs p 0 / 64) (get_or bs p 0 % 8)).0) (address_at bs (p + 1) (get_or bs p 0 / 64) (get_or bs p 0 % 8)).1)

modrm_after : (bs : List ℕ) (p : ℕ) (t : Bool) → p ≤ (modrm_by bs p t).end
modrm_after bs p true = omega arith
modrm_after bs p false = omega (arith, address_after bs (p + 1) (get_or bs p 0 / 64) (get_or bs p 0 % 8) (eqb (get_or bs p 0 % 8) 4))

modrm_by_lem : (bs : List ℕ) (a z p : ℕ) (t : Bool) → Between bs a z → a ≤ p → leb 0xC0 (get_or bs p 0) ≡ t → (modrm_by bs p t).end ≤ z →
    Stands (Names (modrm_by bs p t).reg (modrm_by bs p t).operand) bs p (modrm_by bs p t).end
modrm_by_lem bs a z p true o l e h =
    let b : get_or bs p 0 < 256 = o.octets p l (omega arith) in
    let g : 192 ≤ get_or bs p 0 = leb-true 192 (get_or bs p 0) e in
    record {
      part = fields 3 ((get_or bs p 0 / 8) % 8) (get_or bs p 0 % 8) ∷ [];
      is = register ((get_or bs p 0 / 8) % 8) (get_or bs p 0 % 8) (omega arith) (omega arith);
      there = (omega arith, omega (arith, o.inside));
      ends = omega arith;
    }
modrm_by_lem bs a z p false o l e h =
    let b : get_or bs p 0 < 256 = o.octets p l (omega (arith, address_after bs (p + 1) (get_or bs p 0 / 64) (get_or bs p 0 % 8) (eqb (get_or bs p 0 % 8) 4))) in
    let g : get_or bs p 0 < 192 = leb-false 192 (get_or bs p 0) e in
    let s = address_stands bs a z (p + 1) (get_or bs p 0 / 64) (get_or bs p 0 % 8) o (omega arith) (omega arith) (omega arith) h in
    record {
      part = fields (get_or bs p 0 / 64) ((get_or bs p 0 / 8) % 8) (get_or bs p 0 % 8) ∷ s.part;
      is = memory ((get_or bs p 0 / 8) % 8) (get_or bs p 0 / 64) (get_or bs p 0 % 8) (address_at bs (p + 1) (get_or bs p 0 / 64) (get_or bs p 0 % 8)).0 s.part (omega arith) s.is;
      there = (by_fields (get_or bs p 0), s.there);
      ends = omega (arith, s.ends);
    }

modrm_stands : (bs : List ℕ) (a z p : ℕ) → Between bs a z → a ≤ p → (modrm_at bs p).end ≤ z → Stands (Names (modrm_at bs p).reg (modrm_at bs p).operand) bs p (modrm_at bs p).end
modrm_stands bs a z p o l h = modrm_by_lem bs a z p (leb 0xC0 (get_or bs p 0)) o l refl h

-- an instruction that came with an end
with_end : (o : Option Instruction) (i : Instruction) (q r : ℕ) → option_map {U = Instruction × ℕ} (λ i. (i, q)) o ≡ Some (i, r) → (o ≡ Some i) × (q ≡ r)
with_end None i q r e = let z : ◌≡◌ {A = ℕ} 0 1 = cc in absurd (omega arith)
with_end (Some j) i q r e =
    let z : ◌≡◌ {A = Instruction × ℕ} (j, q) (i, r) = cc in
    (ap (λ (x : Instruction × ℕ). Some x.0) z, ap (λ (x : Instruction × ℕ). x.1) z)

of_some : (j i : Instruction) (q r : ℕ) → ◌≡◌ {A = Option (Instruction × ℕ)} (Some (j, q)) (Some (i, r)) → (j ≡ i) × (q ≡ r)
of_some j i q r e =
    let z : ◌≡◌ {A = Instruction × ℕ} (j, q) (i, r) = cc in
    (ap (λ (x : Instruction × ℕ). x.0) z, ap (λ (x : Instruction × ℕ). x.1) z)

-- the same place, and the same instruction
settle : (f : Form) (n : ℕ) (j i : Instruction) (bs : List ℕ) (p q r : ℕ) → j ≡ i → q ≡ r → Stands (Follows f n j) bs p q → Stands (Follows f n i) bs p r
settle f n j i bs p q r a b s =
    record { part = s.part; is = subst (λ (i : Instruction). Follows f n i s.part) a s.is; there = s.there; ends = s.ends ∙ b }

pub form_stands : (bs : List ℕ) (a y p : ℕ) (f : Form) (n : ℕ) (i : Instruction) (q : ℕ) → Between bs a y → a ≤ p → form_at bs p f n ≡ Some (i, q) → q ≤ y → Stands (Follows f n i) bs p q
form_stands bs a y p (Alone f) n i q o l e h =
    let z = of_some (alone_means f n) i p q e in
    settle (Alone f) n (alone_means f n) i bs p p q z.0 z.1 (record { part = []; is = nothing f n; there = omega (arith, z.1, o.inside); ends = omega arith })
form_stands bs a y p (WithImmediate f) n i q o l e h =
    let z = of_some (immediate_means f n (value_at (immediate_width f) bs p)) i (p + width_bytes (immediate_width f)) q e in
    settle (WithImmediate f) n (immediate_means f n (value_at (immediate_width f) bs p)) i bs p (p + width_bytes (immediate_width f)) q z.0 z.1
    (stands_as (Spells (immediate_width f) (value_at (immediate_width f) bs p)) (Follows (WithImmediate f) n (immediate_means f n (value_at (immediate_width f) bs p))) bs p (p + width_bytes (immediate_width f))
    (λ v s. immediate f n (value_at (immediate_width f) bs p) v s) (value_stands (immediate_width f) bs a y p o l (omega (arith, z.1))))
form_stands bs a y p (WithOperand f) n i q o l e h =
    let z = with_end (operand_means f n (modrm_at bs p).reg (modrm_at bs p).operand) i (modrm_at bs p).end q e in
    settle (WithOperand f) n i i bs p (modrm_at bs p).end q refl z.1
    (stands_as (Names (modrm_at bs p).reg (modrm_at bs p).operand) (Follows (WithOperand f) n i) bs p (modrm_at bs p).end
    (λ v s. operand f n (modrm_at bs p).reg (modrm_at bs p).operand v i s z.0) (modrm_stands bs a y p o l (omega (arith, z.1))))
form_stands bs a y p (WithBoth f) n i q o l e h =
    let w : ℕ = value_at (both_width f) bs (modrm_at bs p).end in
    let z = with_end (both_means f (modrm_at bs p).reg (modrm_at bs p).operand (value_at (both_width f) bs (modrm_at bs p).end)) i ((modrm_at bs p).end + width_bytes (both_width f)) q e in
    let s = modrm_stands bs a y p o l (omega (arith, z.1)) in
    let v = value_stands (both_width f) bs a y (modrm_at bs p).end o (omega (arith, modrm_after bs p (leb 0xC0 (get_or bs p 0)))) (omega (arith, z.1)) in
    record {
      part = s.part ++ v.part;
      is = both f n (modrm_at bs p).reg (modrm_at bs p).operand s.part (value_at (both_width f) bs (modrm_at bs p).end) v.part i s.is v.is z.0;
      there = holds_join bs s.part v.part p s.there (same_place bs v.part (modrm_at bs p).end (p + length s.part) (sym s.ends) v.there);
      ends = omega (arith, z.1, s.ends, v.ends, length-append s.part v.part);
    }

pub form_after : (bs : List ℕ) (p : ℕ) (f : Form) (n : ℕ) (i : Instruction) (q : ℕ) → form_at bs p f n ≡ Some (i, q) → p ≤ q
form_after bs p (Alone f) n i q e = omega (arith, (of_some (alone_means f n) i p q e).1)
form_after bs p (WithImmediate f) n i q e = omega (arith, (of_some (immediate_means f n (value_at (immediate_width f) bs p)) i (p + width_bytes (immediate_width f)) q e).1)
form_after bs p (WithOperand f) n i q e =
    omega (arith, (with_end (operand_means f n (modrm_at bs p).reg (modrm_at bs p).operand) i (modrm_at bs p).end q e).1, modrm_after bs p (leb 0xC0 (get_or bs p 0)))
form_after bs p (WithBoth f) n i q e =
    omega (arith, (with_end (both_means f (modrm_at bs p).reg (modrm_at bs p).operand (value_at (both_width f) bs (modrm_at bs p).end)) i ((modrm_at bs p).end + width_bytes (both_width f)) q e).1, modrm_after bs p (leb 0xC0 (get_or bs p 0)))

-- nothing is long
wide : (w : Width) → width_bytes w ≤ 4
wide Byte = omega arith
wide Long = omega arith

displacement_short : (w : Option Width) (bs : List ℕ) (p : ℕ) → (displacement_at w bs p).1 ≤ p + 4
displacement_short None bs p = omega arith
displacement_short (Some w) bs p = omega (arith, wide w)

address_short : (bs : List ℕ) (p m n : ℕ) (t : Bool) → (address_by bs p m n t).1 ≤ p + 5
address_short bs p m n true = omega (arith, displacement_short (displacement_width_of m (get_or bs p 0 % 8)) bs (p + 1))
address_short bs p m n false = omega (arith, displacement_short (displacement_width_of m n) bs p)

modrm_short : (bs : List ℕ) (p : ℕ) (t : Bool) → (modrm_by bs p t).end ≤ p + 6
modrm_short bs p true = omega arith
modrm_short bs p false = omega (arith, address_short bs (p + 1) (get_or bs p 0 / 64) (get_or bs p 0 % 8) (eqb (get_or bs p 0 % 8) 4))

pub form_short : (bs : List ℕ) (p : ℕ) (f : Form) (n : ℕ) (i : Instruction) (q : ℕ) → form_at bs p f n ≡ Some (i, q) → q ≤ p + 10
form_short bs p (Alone f) n i q e = omega (arith, (of_some (alone_means f n) i p q e).1)
form_short bs p (WithImmediate f) n i q e = omega (arith, (of_some (immediate_means f n (value_at (immediate_width f) bs p)) i (p + width_bytes (immediate_width f)) q e).1, wide (immediate_width f))
form_short bs p (WithOperand f) n i q e =
    omega (arith, (with_end (operand_means f n (modrm_at bs p).reg (modrm_at bs p).operand) i (modrm_at bs p).end q e).1, modrm_short bs p (leb 0xC0 (get_or bs p 0)))
form_short bs p (WithBoth f) n i q e =
    omega (arith, (with_end (both_means f (modrm_at bs p).reg (modrm_at bs p).operand (value_at (both_width f) bs (modrm_at bs p).end)) i ((modrm_at bs p).end + width_bytes (both_width f)) q e).1, modrm_short bs p (leb 0xC0 (get_or bs p 0)), wide (both_width f))
