-- Each part of an encoding is read as what it encodes.
use Rattle.std.proofs.Common.{◌≡◌, ℕ, ◌+◌, ◌/◌, ◌%◌, ◌<◌, Bool, true, false, cond, eqb, leb, List, ◌∷◌, length, get_or, Some, None, Option, sym, refl, ap, ◌∙◌, subst, arith, length-append, ne_eqb, le-leb}
use borrow.Author.Tests.{lt-leb}
use Rattle.std.specs.Option.{option_map}
use Rattle.x86.specs.declared.registers.Width.{Width}
use Rattle.x86.specs.declared.registers.Register.{Register as Register32}
use Rattle.x86.specs.declared.operands.Address.{Address}
use Rattle.x86.specs.declared.operands.Index.{Index}
use Rattle.x86.specs.declared.operands.Modrm.{Modrm}
use Rattle.x86.specs.declared.operands.RegisterOrMemory.{RegisterOrMemory}
use Rattle.x86.specs.declared.operands.RegisterOrMemory.TheVariants.{Register, Memory}
use Rattle.x86.specs.declared.instructions.Instruction.{Instruction}
use Rattle.x86.specs.declared.forms.Form.{Form}
use Rattle.x86.specs.Numbers.{width_bytes}
use Rattle.x86.specs.Meanings.{alone_means, immediate_width, immediate_means, operand_means, both_width, both_means}
use Rattle.x86.specs.Decoded.{value_at, address, base_of, index_of, displacement_width_of, displacement_at, address_at, modrm, modrm_at, form_at}
use Rattle.x86.specs.Grammar.{Spells, byte, long, Displaces, not_at_all, by, fields, Bases, plain, absolute, near, far, Indexes, scaled_by, unscaled, index, Addresses, based, scaled, Names, register, memory, Follows, nothing, immediate, operand, both}
use Rattle.x86.proofs.Bytes.{Holds, holds_left, holds_right}

pub spelled_length : (w : Width) (v : ℕ) (e : List ℕ) → Spells w v e → length e ≡ width_bytes w
spelled_length _ _ _ (byte b h) = refl
spelled_length _ _ _ (long a b c d ha hb hc hd) = refl

pub at_place : (bs : List ℕ) (p q x : ℕ) → p ≡ q → get_or bs p 0 ≡ x → get_or bs q 0 ≡ x
at_place bs p q x e h = subst (λ (p : ℕ). get_or bs p 0 ≡ x) e h

pub reads_value : (bs : List ℕ) (p : ℕ) (w : Width) (v : ℕ) (e : List ℕ) → Spells w v e → Holds bs p e → value_at w bs p ≡ v
reads_value bs p _ _ _ (byte b h) k = k.0
reads_value bs p _ _ _ (long a b c d ha hb hc hd) k =
    omega (arith, k.0, k.1.0, at_place bs (p + 1 + 1) (p + 2) c (omega arith) k.1.1.0, at_place bs (p + 1 + 1 + 1) (p + 3) d (omega arith) k.1.1.1.0)

pub reads_displacement : (bs : List ℕ) (p : ℕ) (w : Option Width) (d : Option ℕ) (e : List ℕ) → Displaces w d e → Holds bs p e → displacement_at w bs p ≡ (d, p + length e)
reads_displacement bs p _ _ _ not_at_all k = ap (λ (q : ℕ). (None, q)) (omega arith)
reads_displacement bs p _ _ _ (by w v e s) k =
    let h = reads_value bs p w v e s k in
    let l = spelled_length w v e s in
    rw (h, l)

pub low_field : (m r n : ℕ) → r < 8 → n < 8 → fields m r n % 8 ≡ n
low_field m r n h k = omega arith

pub middle_field : (m r n : ℕ) → r < 8 → n < 8 → (fields m r n / 8) % 8 ≡ r
middle_field m r n h k = omega arith

pub high_field : (m r n : ℕ) → r < 8 → n < 8 → fields m r n / 64 ≡ m
high_field m r n h k = omega arith

-- a test that is known
pub chosen : {A : Type 0} (b : Bool) (x y z : A) → b ≡ true → x ≡ z → cond b x y ≡ z
chosen true x y z e h = h
chosen false x y z e h = let n : ◌≡◌ {A = ℕ} 0 1 = cc in absurd (omega arith)

pub passed_over : {A : Type 0} (b : Bool) (x y z : A) → b ≡ false → y ≡ z → cond b x y ≡ z
passed_over true x y z e h = let n : ◌≡◌ {A = ℕ} 0 1 = cc in absurd (omega arith)
passed_over false x y z e h = h

alike : {B : Type 0} (f : ℕ → ℕ → ℕ → B) (a b c x y z : ℕ) → a ≡ x → b ≡ y → c ≡ z → f a b c ≡ f x y z
alike f a b c x y z p q r = cc

-- the base and the displacement's width, as the decoder has them
pub base_read : (m n : ℕ) (b : Option Register32) (w : Option Width) → Bases m n b w → (base_of m n ≡ b) × (displacement_width_of m n ≡ w)
base_read _ _ _ _ (plain n h h5) = (passed_over (eqb n 5) _ _ _ (ne_eqb n 5 h5) refl, passed_over (eqb n 5) _ _ _ (ne_eqb n 5 h5) refl)
base_read _ _ _ _ absolute = (refl, refl)
base_read _ _ _ _ (near n h) = (refl, refl)
base_read _ _ _ _ (far n h) = (refl, refl)

pub base_fits : (m n : ℕ) (b : Option Register32) (w : Option Width) → Bases m n b w → (m < 3) × (n < 8)
base_fits _ _ _ _ (plain n h h5) = (omega arith, h)
base_fits _ _ _ _ absolute = (omega arith, omega arith)
base_fits _ _ _ _ (near n h) = (omega arith, h)
base_fits _ _ _ _ (far n h) = (omega arith, h)

pub index_read : (s i : ℕ) (x : Option Register32) → Indexes s i x → index_of s i ≡ index x s
index_read _ _ _ (scaled_by s i hs hi h4) = ap (λ (r : Option Register32). index r s) (passed_over (eqb i 4) _ _ _ (ne_eqb i 4 h4) refl)
index_read _ _ _ (unscaled s hs) = refl

pub index_fits : (s i : ℕ) (x : Option Register32) → Indexes s i x → (s < 4) × (i < 8)
index_fits _ _ _ (scaled_by s i hs hi h4) = (hs, hi)
index_fits _ _ _ (unscaled s hs) = (hs, omega arith)

sib : List ℕ → ℕ → ℕ → ℕ → ℕ → ℕ → Address × ℕ
sib bs p m b s i = (address (base_of m b) (Some (index_of s i)) (displacement_at (displacement_width_of m b) bs (p + 1)).0, (displacement_at (displacement_width_of m b) bs (p + 1)).1)

-- the address by its parts
in_parts : (bs : List ℕ) (p m n : ℕ) (b : Option Register32) (w : Option Width) (x : Option Index) (d : Option ℕ) (q : ℕ) →
    base_of m n ≡ b → displacement_width_of m n ≡ w → displacement_at w bs p ≡ (d, q) →
    ◌≡◌ {A = Address × ℕ} (address (base_of m n) x (displacement_at (displacement_width_of m n) bs p).0, (displacement_at (displacement_width_of m n) bs p).1) (address b x d, q)
in_parts bs p m n b w x d q hb hw hd =
    ap (λ (c : Option Register32). (address c x (displacement_at (displacement_width_of m n) bs p).0, (displacement_at (displacement_width_of m n) bs p).1)) hb
    ∙ ap (λ (v : Option Width). (address b x (displacement_at v bs p).0, (displacement_at v bs p).1)) hw
    ∙ ap (λ (y : Option ℕ × ℕ). (address b x y.0, y.1)) hd

reads_scaled : (bs : List ℕ) (p m s i n : ℕ) (b x : Option Register32) (w : Option Width) (d : Option ℕ) (e : List ℕ) → Bases m n b w → Indexes s i x → Displaces w d e →
    Holds bs p (fields s i n ∷ e) →
    sib bs p m (get_or bs p 0 % 8) (get_or bs p 0 / 64) ((get_or bs p 0 / 8) % 8) ≡ (address b (Some (index x s)) d, p + length (fields s i n ∷ e))
unfolding sib
reads_scaled bs p m s i n b x w d e hb hx t k =
    let fb = base_fits m n b w hb in
    let fx = index_fits s i x hx in
    alike (sib bs p m) (get_or bs p 0 % 8) (get_or bs p 0 / 64) ((get_or bs p 0 / 8) % 8) n s i
    (ap (λ (y : ℕ). y % 8) k.0 ∙ low_field s i n fx.1 fb.1) (ap (λ (y : ℕ). y / 64) k.0 ∙ high_field s i n fx.1 fb.1) (ap (λ (y : ℕ). (y / 8) % 8) k.0 ∙ middle_field s i n fx.1 fb.1)
    ∙ in_parts bs (p + 1) m n b w (Some (index_of s i)) d (p + 1 + length e) (base_read m n b w hb).0 (base_read m n b w hb).1 (reads_displacement bs (p + 1) w d e t k.1)
    ∙ ap (λ (y : Index). (address b (Some y) d, p + 1 + length e)) (index_read s i x hx)
    ∙ ap (λ (q : ℕ). (address b (Some (index x s)) d, q)) (omega arith)

pub reads_address : (bs : List ℕ) (p m n : ℕ) (a : Address) (e : List ℕ) → Addresses m n a e → Holds bs p e → address_at bs p m n ≡ (a, p + length e)
unfolding sib
reads_address bs p _ _ _ _ (based m n b w d e hb h4 s) k =
    passed_over (eqb n 4) _ _ _ (ne_eqb n 4 h4)
    (in_parts bs p m n b w None d (p + length e) (base_read m n b w hb).0 (base_read m n b w hb).1 (reads_displacement bs p w d e s k))
reads_address bs p _ _ _ _ (scaled m s i n b x w d e hb hx t) k = reads_scaled bs p m s i n b x w d e hb hx t k

pub addresses_fit : (m n : ℕ) (a : Address) (e : List ℕ) → Addresses m n a e → (m < 3) × (n < 8)
addresses_fit _ _ _ _ (based m n b w d e hb h4 s) = base_fits m n b w hb
addresses_fit _ _ _ _ (scaled m s i n b x w d e hb hx t) = ((base_fits m n b w hb).0, omega arith)

named : List ℕ → ℕ → ℕ → ℕ → ℕ → Modrm
named bs p r m n = modrm r (Memory (address_at bs (p + 1) m n).0) (address_at bs (p + 1) m n).1

pub reads_names : (bs : List ℕ) (p r : ℕ) (o : RegisterOrMemory) (e : List ℕ) → Names r o e → Holds bs p e → modrm_at bs p ≡ modrm r o (p + length e)
unfolding named
reads_names bs p _ _ _ (register r n hr hn) k =
    chosen (leb 0xC0 (get_or bs p 0)) _ _ _ (le-leb 0xC0 (get_or bs p 0) (omega (arith, k.0)))
    (alike (λ a b c. modrm a (Register b) c) _ _ (p + 1) r n (p + 1) (ap (λ (x : ℕ). (x / 8) % 8) k.0 ∙ middle_field 3 r n hr hn) (ap (λ (x : ℕ). x % 8) k.0 ∙ low_field 3 r n hr hn) refl)
reads_names bs p _ _ _ (memory r m n a e hr s) k =
    let f = addresses_fit m n a e s in
    passed_over (leb 0xC0 (get_or bs p 0)) _ _ _ (lt-leb 0xC0 (get_or bs p 0) (omega (arith, k.0)))
    (alike (named bs p) ((get_or bs p 0 / 8) % 8) (get_or bs p 0 / 64) (get_or bs p 0 % 8) r m n
    (ap (λ (x : ℕ). (x / 8) % 8) k.0 ∙ middle_field m r n hr f.1) (ap (λ (x : ℕ). x / 64) k.0 ∙ high_field m r n hr f.1) (ap (λ (x : ℕ). x % 8) k.0 ∙ low_field m r n hr f.1)
    ∙ ap (λ (x : Address × ℕ). modrm r (Memory x.0) x.1) (reads_address bs (p + 1) m n a e s k.1)
    ∙ ap (λ (q : ℕ). modrm r (Memory a) q) (omega arith))

pub reads_form : (bs : List ℕ) (p : ℕ) (f : Form) (n : ℕ) (i : Instruction) (e : List ℕ) → Follows f n i e → Holds bs p e → form_at bs p f n ≡ Some (i, p + length e)
reads_form bs p _ _ _ _ (nothing f n) k = ap (λ (q : ℕ). Some (alone_means f n, q)) (omega arith)
reads_form bs p _ _ _ _ (immediate f n v e s) k =
    let h = reads_value bs p (immediate_width f) v e s k in
    let l = spelled_length (immediate_width f) v e s in
    ap (λ (x : ℕ). Some (immediate_means f n x, p + width_bytes (immediate_width f))) h ∙ ap (λ (x : ℕ). Some (immediate_means f n v, p + x)) (sym l)
reads_form bs p _ _ _ _ (operand f n r o e i s means) k =
    ap (λ (m : Modrm). option_map (λ i. (i, m.end)) (operand_means f n m.reg m.operand)) (reads_names bs p r o e s k)
    ∙ ap (option_map (λ i. (i, p + length e))) means
reads_form bs p _ _ _ _ (both f n r o e v vs i s t means) k =
    let l = spelled_length (both_width f) v vs t in
    let h = reads_value bs (p + length e) (both_width f) v vs t (holds_right bs e vs p k) in
    ap (λ (m : Modrm). option_map (λ i. (i, m.end + width_bytes (both_width f))) (both_means f m.reg m.operand (value_at (both_width f) bs m.end))) (reads_names bs p r o e s (holds_left bs e vs p k))
    ∙ ap (λ (x : ℕ). option_map (λ i. (i, p + length e + width_bytes (both_width f))) (both_means f r o x)) h
    ∙ ap (option_map (λ i. (i, p + length e + width_bytes (both_width f)))) means
    ∙ ap (λ (q : ℕ). Some (i, q)) (omega (arith, l, length-append e vs))
