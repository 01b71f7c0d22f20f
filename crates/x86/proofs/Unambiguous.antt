-- What follows of the grammar by itself.
use Rattle.std.proofs.Common.{◌≡◌, ℕ, ◌<◌, ◌≤◌, List, [], ◌∷◌, ◌++◌, length, Some, Option, refl, ap, subst, arith, length-append}
use Rattle.x86.specs.declared.registers.Width.{Width}
use Rattle.x86.specs.declared.operands.Address.{Address}
use Rattle.x86.specs.declared.operands.RegisterOrMemory.{RegisterOrMemory}
use Rattle.x86.specs.declared.operands.RegisterOrMemory.TheVariants.{Register}
use Rattle.x86.specs.declared.instructions.Instruction.{Instruction}
use Rattle.x86.specs.declared.instructions.Instruction.TheVariants.{Straight, Loose}
use Rattle.x86.specs.declared.instructions.Decoded.{Decoded}
use Rattle.x86.specs.declared.pairs.Transfer.{Transfer}
use Rattle.x86.specs.declared.pairs.Transfer.TheVariants.{Jump, Call}
use Rattle.x86.specs.declared.forms.WithBoth.TheVariants.{SignExtended}
use Rattle.x86.specs.declared.forms.WithOperand.TheVariants.{Through}
use Rattle.x86.specs.declared.forms.WithImmediate.{WithImmediate as Immediate}
use Rattle.x86.specs.declared.forms.Form.{Form}
use Rattle.x86.specs.declared.forms.Form.TheVariants.{WithImmediate, WithOperand, WithBoth}
use Rattle.x86.specs.Numbers.{register_of}
use Rattle.x86.specs.Instructions.{class_of}
use Rattle.x86.specs.Pairs.{mask_of, leave_of}
use Rattle.x86.specs.Decoded.{decoded_at, instruction_of}
use Rattle.x86.specs.Grammar.{first, later, Opens, one_byte, two_byte, Spells, byte, long, Displaces, not_at_all, by, fields, Addresses, based, scaled, Names, register, memory, Follows, nothing, immediate, operand, both, Encodes, encoding}
use Rattle.x86.specs.Laws.{Unambiguous, ClassesApart, Short, Halves, paired, mask, leave}
use Rattle.x86.proofs.Meets.{every_encoding}

same_answer : (i j : Instruction) (m n : ℕ) (o : Option Decoded) → o ≡ Some (instruction_of i m) → o ≡ Some (instruction_of j n) → (m ≡ n) × (i ≡ j)
same_answer i j m n o p q =
    let z : instruction_of i m ≡ instruction_of j n = cc in
    (ap (λ (d : Decoded). d.length) z, ap (λ (d : Decoded). d.instruction) z)

front : (e f x y : List ℕ) → length e ≡ length f → e ++ x ≡ f ++ y → e ≡ f
front [] [] x y n h = refl
front [] (b ∷ f) x y n h = absurd (omega arith)
front (a ∷ e) [] x y n h = absurd (omega arith)
front (a ∷ e) (b ∷ f) x y n h =
    let t : e ++ x ≡ f ++ y = cc in
    let s : a ≡ b = cc in
    let r = front e f x y (omega arith) t in
    cc

pub unambiguous : Unambiguous
unambiguous i j e f x y s t h =
    let a = every_encoding (e ++ x) 0 i e x s refl in
    let b = every_encoding (e ++ x) 0 j f y t h in
    let c = same_answer i j (length e) (length f) (decoded_at (e ++ x) 0) a b in
    (front e f x y c.0 h, c.1)

pub classes_apart : ClassesApart
classes_apart i j e s t = ap class_of (unambiguous i j e e [] [] s t refl).1

at_most_four : (w : Width) (v : ℕ) (e : List ℕ) → Spells w v e → length e ≤ 4
at_most_four _ _ _ (byte b h) = omega arith
at_most_four _ _ _ (long a b c d ha hb hc hd) = omega arith

displacement_short : (w : Option Width) (d : Option ℕ) (e : List ℕ) → Displaces w d e → length e ≤ 4
displacement_short _ _ _ not_at_all = omega arith
displacement_short _ _ _ (by w v e s) = at_most_four w v e s

address_short : (m n : ℕ) (a : Address) (e : List ℕ) → Addresses m n a e → length e ≤ 5
address_short _ _ _ _ (based m n b w d e hb h4 s) = omega (arith, displacement_short w d e s)
address_short _ _ _ _ (scaled m s i n b x w d e hb hx t) = omega (arith, displacement_short w d e t)

names_short : (r : ℕ) (o : RegisterOrMemory) (e : List ℕ) → Names r o e → length e ≤ 6
names_short _ _ _ (register r n hr hn) = omega arith
names_short _ _ _ (memory r m n a e hr s) = omega (arith, address_short m n a e s)

follows_short : (f : Form) (n : ℕ) (i : Instruction) (e : List ℕ) → Follows f n i e → length e ≤ 10
follows_short _ _ _ _ (nothing f n) = omega arith
follows_short _ _ _ _ (immediate f n v e s) = omega (arith, at_most_four _ v e s)
follows_short _ _ _ _ (operand f n r o e i s h) = omega (arith, names_short r o e s)
follows_short _ _ _ _ (both f n r o e v vs i s t h) = omega (arith, names_short r o e s, at_most_four _ v vs t, length-append e vs)

immediate_short : (f : Immediate) (n : ℕ) (i : Instruction) (e : List ℕ) → Follows (WithImmediate f) n i e → length e ≤ 4
immediate_short _ _ _ _ (immediate f n v e s) = at_most_four _ v e s

pub short : Short
short _ _ (encoding _ _ i _ e (one_byte r n m h) s) = (omega arith, omega (arith, follows_short r.form n i e s))
short _ _ (encoding _ _ i _ e (two_byte _ n first h) s) = (omega arith, omega (arith, immediate_short _ n i e s))
short i _ (encoding f n _ _ e (two_byte _ _ (later none) h) s) = elim none [ ]

-- the row of the byte FF
row_ff : Opens (WithOperand Through) 0 (0xFF ∷ [])
row_ff = one_byte _ 0 (later (later (later (later (later (later (later (later (later (later (later (later (later (later (later (later (later (later (later (later (later (later (later (later (later (later (later (later (later (later (later (later (later (first)))))))))))))))))))))))))))))))))) (omega arith)

masks_with : (n : ℕ) → n < 8 → Encodes (Straight (mask_of (register_of n))) (mask n)
masks_with n h =
    subst (λ (b : ℕ). Encodes (Straight (mask_of (register_of n))) (0x83 ∷ (b ∷ (0xE0 ∷ [])))) (omega arith)
    (encoding (WithBoth SignExtended) 0 (Straight (mask_of (register_of n))) (0x83 ∷ []) (fields 3 4 n ∷ (0xE0 ∷ []))
    (one_byte _ 0 (later (later (later (later (later (later (later (later (later (later (later (later (later first))))))))))))) (omega arith))
    (both SignExtended 0 4 (Register n) (fields 3 4 n ∷ []) 0xE0 (0xE0 ∷ []) (Straight (mask_of (register_of n))) (register 4 n (omega arith) h) (byte 0xE0 (omega arith)) refl))

leaves : (n : ℕ) (t : Transfer) → n < 8 → Encodes (Loose (leave_of t (register_of n))) (leave t n)
leaves n Jump h =
    subst (λ (b : ℕ). Encodes (Loose (leave_of Jump (register_of n))) (0xFF ∷ (b ∷ []))) (omega arith)
    (encoding (WithOperand Through) 0 (Loose (leave_of Jump (register_of n))) (0xFF ∷ []) (fields 3 4 n ∷ []) row_ff
    (operand Through 0 4 (Register n) (fields 3 4 n ∷ []) (Loose (leave_of Jump (register_of n))) (register 4 n (omega arith) h) refl))
leaves n Call h =
    subst (λ (b : ℕ). Encodes (Loose (leave_of Call (register_of n))) (0xFF ∷ (b ∷ []))) (omega arith)
    (encoding (WithOperand Through) 0 (Loose (leave_of Call (register_of n))) (0xFF ∷ []) (fields 3 2 n ∷ []) row_ff
    (operand Through 0 2 (Register n) (fields 3 2 n ∷ []) (Loose (leave_of Call (register_of n))) (register 2 n (omega arith) h) refl))

pub halves : Halves
halves _ _ (paired n t h h4) = (masks_with n h, leaves n t h)
