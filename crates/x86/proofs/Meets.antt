-- The decoder and the grammar meet.
use Rattle.std.proofs.Common.{◌≡◌, ℕ, ◌+◌, ◌-◌, ◌<◌, ◌≤◌, Bool, true, false, cond, eqb, leb, List, [], ◌∷◌, ◌++◌, length, get_or, take, drop, Some, None, Option, sym, refl, ap, ◌∙◌, subst, arith, length-append, eqb-true, le-leb, leb-true}
use Rattle.x86.specs.declared.instructions.Instruction.{Instruction}
use Rattle.x86.specs.declared.instructions.Decoded.{Decoded}
use Rattle.x86.specs.declared.forms.Form.{Form}
use Rattle.x86.specs.Rows.{Row, look_up, one_byte_rows, two_byte_rows}
use Rattle.x86.specs.Decoded.{form_at, row_at, read_at, within, decoded_at, instruction_of}
use Rattle.x86.specs.Grammar.{Opens, one_byte, two_byte, Follows, Encodes, encoding, opcode}
use Rattle.x86.specs.Octets.{Octets}
use Rattle.x86.specs.Laws.{Inside, EveryEncoding}
use Rattle.x86.proofs.Bytes.{Holds, same_place, holds_end, holds_left, holds_right, holds_join, holds_some, holds_take}
use Rattle.x86.proofs.Complete.{chosen, passed_over, reads_form}
use Rattle.x86.proofs.Table.{found_one, found_two, not_0f, looked_one, looked_two}
use Rattle.x86.proofs.Sound.{Stands, Between, form_stands, form_after, form_short}

-- the opcode leads to its form
reads_opcode : (bs : List ℕ) (p : ℕ) (f : Form) (n : ℕ) (os : List ℕ) → Opens f n os → Holds bs p os → read_at bs p ≡ form_at bs (p + length os) f n
reads_opcode bs p _ _ _ (one_byte r n m h) k =
    passed_over (eqb (get_or bs p 0) 0x0F) _ _ _ (ap (λ (b : ℕ). eqb b 0x0F) k.0 ∙ not_0f r n m h)
    (ap (λ (b : ℕ). row_at bs (p + 1) (look_up one_byte_rows b)) k.0 ∙ ap (row_at bs (p + 1)) (found_one r n m h))
reads_opcode bs p _ _ _ (two_byte r n m h) k =
    chosen (eqb (get_or bs p 0) 0x0F) _ _ _ (ap (λ (b : ℕ). eqb b 0x0F) k.0)
    (ap (λ (b : ℕ). row_at bs (p + 2) (look_up two_byte_rows b)) k.1.0 ∙ ap (row_at bs (p + 2)) (found_two r n m h))

answers : (bs : List ℕ) (p : ℕ) (i : Instruction) (e : List ℕ) → read_at bs p ≡ Some (i, p + length e) → Holds bs p e → decoded_at bs p ≡ Some (instruction_of i (length e))
answers bs p i e h k =
    ap (within bs p) h
    ∙ chosen (leb (p + length e) (length bs)) _ _ _ (le-leb (p + length e) (length bs) (holds_end bs e p k)) (ap (λ (n : ℕ). Some (instruction_of i n)) (omega arith))

decodes : (bs : List ℕ) (p : ℕ) (i : Instruction) (e : List ℕ) → Encodes i e → Holds bs p e → decoded_at bs p ≡ Some (instruction_of i (length e))
decodes bs p _ _ (encoding f n i os es o s) k =
    answers bs p i (os ++ es)
    (reads_opcode bs p f n os o (holds_left bs os es p k) ∙ reads_form bs (p + length os) f n i es s (holds_right bs os es p k)
    ∙ ap (λ (q : ℕ). Some (i, q)) (omega (arith, length-append os es)))
    k

-- an encoding that stands in the bytes begins inside them
starts : (bs : List ℕ) (p : ℕ) (i : Instruction) (e after : List ℕ) → Encodes i e → drop p bs ≡ e ++ after → Holds bs p e
starts bs p _ _ after (encoding _ _ i _ es (one_byte r n m h) s) k = holds_some bs es after p (opcode r.opcodes n) k
starts bs p _ _ after (encoding _ _ i _ es (two_byte r n m h) s) k = holds_some bs (opcode r.opcodes n ∷ es) after p 0x0F k

pub every_encoding : (bs : List ℕ) (p : ℕ) → EveryEncoding bs p (decoded_at bs p)
every_encoding bs p i e after s k = decodes bs p i e s (starts bs p i e after s k)

-- what an opcode and what follows it make
encoded : (bs : List ℕ) (p q r : ℕ) (f : Form) (n : ℕ) (i : Instruction) (os : List ℕ) → Opens f n os → Holds bs p os → p + length os ≡ q → Stands (Follows f n i) bs q r → Stands (Encodes i) bs p r
encoded bs p q r f n i os o k e s =
    record {
      part = os ++ s.part;
      is = encoding f n i os s.part o s.is;
      there = holds_join bs os s.part p k (same_place bs s.part q (p + length os) (sym e) s.there);
      ends = omega (arith, s.ends, length-append os s.part);
    }

reopened : (r : Row) (f : Form) (n b : ℕ) (os : ℕ → List ℕ) → Opens r.form n (os (opcode r.opcodes n)) → r.form ≡ f → opcode r.opcodes n ≡ b → Opens f n (os b)
reopened r f n b os o e h = subst (λ (f : Form). Opens f n (os b)) e (subst (λ (b : ℕ). Opens r.form n (os b)) h o)

behind : (bs : List ℕ) (p q : ℕ) (f : Form) (n : ℕ) (i : Instruction) (os : List ℕ) → Between bs p q → Opens f n os → Holds bs p os → form_at bs (p + length os) f n ≡ Some (i, q) →
    Stands (Encodes i) bs p q
behind bs p q f n i os o s k e =
    encoded bs p (p + length os) q f n i os s k refl (form_stands bs p q (p + length os) f n i q o (omega arith) e (omega arith))

one_stands : (bs : List ℕ) (p q : ℕ) (x : Option (Form × ℕ)) (i : Instruction) → Between bs p q → p + 1 ≤ q → look_up one_byte_rows (get_or bs p 0) ≡ x → row_at bs (p + 1) x ≡ Some (i, q) →
    Stands (Encodes i) bs p q
one_stands bs p q None i o l e h = let z : ◌≡◌ {A = ℕ} 0 1 = cc in absurd (omega arith)
one_stands bs p q (Some x) i o l e h =
    let w = looked_one (get_or bs p 0) x.0 x.1 (o.octets p (omega arith) (omega arith)) e in
    behind bs p q x.0 x.1 i (get_or bs p 0 ∷ []) o
    (reopened w.row x.0 x.1 (get_or bs p 0) (λ b. b ∷ []) (one_byte w.row x.1 w.listed w.number) w.form w.opens)
    (refl, omega (arith, o.inside)) h

two_stands : (bs : List ℕ) (p q : ℕ) (x : Option (Form × ℕ)) (i : Instruction) → Between bs p q → p + 2 ≤ q → get_or bs p 0 ≡ 0x0F → look_up two_byte_rows (get_or bs (p + 1) 0) ≡ x → row_at bs (p + 2) x ≡ Some (i, q) →
    Stands (Encodes i) bs p q
two_stands bs p q None i o l g e h = let z : ◌≡◌ {A = ℕ} 0 1 = cc in absurd (omega arith)
two_stands bs p q (Some x) i o l g e h =
    let w = looked_two (get_or bs (p + 1) 0) x.0 x.1 (o.octets (p + 1) (omega arith) (omega arith)) e in
    behind bs p q x.0 x.1 i (0x0F ∷ (get_or bs (p + 1) 0 ∷ [])) o
    (reopened w.row x.0 x.1 (get_or bs (p + 1) 0) (λ b. 0x0F ∷ (b ∷ [])) (two_byte w.row x.1 w.listed w.number) w.form w.opens)
    (g, (refl, omega (arith, o.inside))) h

row_after : (bs : List ℕ) (p q : ℕ) (x : Option (Form × ℕ)) (i : Instruction) → row_at bs p x ≡ Some (i, q) → p ≤ q
row_after bs p q None i e = let z : ◌≡◌ {A = ℕ} 0 1 = cc in absurd (omega arith)
row_after bs p q (Some x) i e = form_after bs p x.0 x.1 i q e

read_stands : (bs : List ℕ) (p q : ℕ) (i : Instruction) (t : Bool) → Between bs p q → eqb (get_or bs p 0) 0x0F ≡ t →
    cond t (row_at bs (p + 2) (look_up two_byte_rows (get_or bs (p + 1) 0))) (row_at bs (p + 1) (look_up one_byte_rows (get_or bs p 0))) ≡ Some (i, q) → Stands (Encodes i) bs p q
read_stands bs p q i true o e h =
    let l : p + 2 ≤ q = row_after bs (p + 2) q (look_up two_byte_rows (get_or bs (p + 1) 0)) i h in
    two_stands bs p q (look_up two_byte_rows (get_or bs (p + 1) 0)) i o l (eqb-true (get_or bs p 0) 0x0F e) refl h
read_stands bs p q i false o e h =
    let l : p + 1 ≤ q = row_after bs (p + 1) q (look_up one_byte_rows (get_or bs p 0)) i h in
    one_stands bs p q (look_up one_byte_rows (get_or bs p 0)) i o l refl h

-- what is inside the bytes stands there
inside_stands : (bs : List ℕ) (p : ℕ) (x : Instruction × ℕ) (d : Decoded) (t : Bool) → leb x.1 (length bs) ≡ t → p ≤ x.1 →
    cond t (Some (instruction_of x.0 (x.1 - p))) None ≡ Some d → Octets bs p (p + d.length) → (Between bs p x.1 → Stands (Encodes x.0) bs p x.1) →
    Encodes d.instruction (take d.length (drop p bs))
inside_stands bs p x d false e l h o f = let z : ◌≡◌ {A = ℕ} 0 1 = cc in absurd (omega arith)
inside_stands bs p x d true e l h o f =
    let y : instruction_of x.0 (x.1 - p) ≡ d = cc in
    let g : p + d.length ≡ x.1 = omega (arith, ap (λ (d : Decoded). d.length) y) in
    let s = f (record { octets = subst (λ (q : ℕ). Octets bs p q) g o; inside = leb-true x.1 (length bs) e }) in
    let n : x.1 - p ≡ length s.part = omega (arith, s.ends) in
    subst (λ (d : Decoded). Encodes d.instruction (take d.length (drop p bs))) y
    (subst (λ (e : List ℕ). Encodes x.0 e) (sym (ap (λ (n : ℕ). take n (drop p bs)) n ∙ holds_take bs s.part p s.there)) s.is)

pub read_past : (bs : List ℕ) (p : ℕ) (x : Instruction × ℕ) (t : Bool) →
    cond t (row_at bs (p + 2) (look_up two_byte_rows (get_or bs (p + 1) 0))) (row_at bs (p + 1) (look_up one_byte_rows (get_or bs p 0))) ≡ Some x → p < x.1
read_past bs p x true h = omega (arith, row_after bs (p + 2) x.1 (look_up two_byte_rows (get_or bs (p + 1) 0)) x.0 h)
read_past bs p x false h = omega (arith, row_after bs (p + 1) x.1 (look_up one_byte_rows (get_or bs p 0)) x.0 h)

read_only : (bs : List ℕ) (p : ℕ) (x : Option (Instruction × ℕ)) (d : Decoded) → Octets bs p (p + d.length) → read_at bs p ≡ x → within bs p x ≡ Some d →
    Encodes d.instruction (take d.length (drop p bs))
read_only bs p None d o e h = let z : ◌≡◌ {A = ℕ} 0 1 = cc in absurd (omega arith)
read_only bs p (Some x) d o e h =
    inside_stands bs p x d (leb x.1 (length bs)) refl (omega (arith, read_past bs p x (eqb (get_or bs p 0) 0x0F) e)) h o (λ k. read_stands bs p x.1 x.0 (eqb (get_or bs p 0) 0x0F) k refl e)

-- an answer whose bytes are bytes is an encoding
pub only_encodings : (bs : List ℕ) (p : ℕ) (d : Decoded) → Octets bs p (p + d.length) → decoded_at bs p ≡ Some d → Encodes d.instruction (take d.length (drop p bs))
only_encodings bs p d o e = read_only bs p (read_at bs p) d o refl e

row_short : (bs : List ℕ) (p q : ℕ) (x : Option (Form × ℕ)) (i : Instruction) → row_at bs p x ≡ Some (i, q) → q ≤ p + 10
row_short bs p q None i e = let z : ◌≡◌ {A = ℕ} 0 1 = cc in absurd (omega arith)
row_short bs p q (Some x) i e = form_short bs p x.0 x.1 i q e

read_short : (bs : List ℕ) (p : ℕ) (x : Instruction × ℕ) (t : Bool) →
    cond t (row_at bs (p + 2) (look_up two_byte_rows (get_or bs (p + 1) 0))) (row_at bs (p + 1) (look_up one_byte_rows (get_or bs p 0))) ≡ Some x → x.1 ≤ p + 12
read_short bs p x true h = omega (arith, row_short bs (p + 2) x.1 (look_up two_byte_rows (get_or bs (p + 1) 0)) x.0 h)
read_short bs p x false h = omega (arith, row_short bs (p + 1) x.1 (look_up one_byte_rows (get_or bs p 0)) x.0 h)

inside_by : (bs : List ℕ) (p : ℕ) (x : Instruction × ℕ) (d : Decoded) (t : Bool) → leb x.1 (length bs) ≡ t → p < x.1 → x.1 ≤ p + 12 →
    cond t (Some (instruction_of x.0 (x.1 - p))) None ≡ Some d → Inside bs p d.length × (d.length ≤ 12)
inside_by bs p x d false e l s h = let z : ◌≡◌ {A = ℕ} 0 1 = cc in absurd (omega arith)
inside_by bs p x d true e l s h =
    let y : instruction_of x.0 (x.1 - p) ≡ d = cc in
    let n : x.1 - p ≡ d.length = ap (λ (d : Decoded). d.length) y in
    let k : x.1 ≤ length bs = leb-true x.1 (length bs) e in
    ((omega arith, omega arith), omega arith)

inside_of : (bs : List ℕ) (p : ℕ) (x : Option (Instruction × ℕ)) (d : Decoded) → read_at bs p ≡ x → within bs p x ≡ Some d → Inside bs p d.length × (d.length ≤ 12)
inside_of bs p None d e h = let z : ◌≡◌ {A = ℕ} 0 1 = cc in absurd (omega arith)
inside_of bs p (Some x) d e h =
    inside_by bs p x d (leb x.1 (length bs)) refl (read_past bs p x (eqb (get_or bs p 0) 0x0F) e) (read_short bs p x (eqb (get_or bs p 0) 0x0F) e) h

-- an answer lies inside the bytes and is short
pub decoded_inside : (bs : List ℕ) (p : ℕ) (d : Decoded) → decoded_at bs p ≡ Some d → Inside bs p d.length × (d.length ≤ 12)
decoded_inside bs p d h = inside_of bs p (read_at bs p) d refl h
