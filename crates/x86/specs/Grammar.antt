-- The grammar as a relation between an instruction and its bytes, as Intel's tables are read: an opcode of a row, a
-- ModRM byte, a SIB byte, a displacement, an immediate.
use Rattle.std.specs.Prelude.{◌≡◌, ℕ, ◌+◌, ◌*◌, ◌<◌, List, [], ◌∷◌, ◌++◌, Some, None, Option, ◌≢◌}
use Rattle.x86.specs.declared.registers.Width.{Width}
use Rattle.x86.specs.declared.registers.Width.TheVariants.{Byte, Long}
use Rattle.x86.specs.declared.registers.Register.{Register as Register32}
use Rattle.x86.specs.declared.operands.Address.{Address}
use Rattle.x86.specs.declared.operands.Index.{Index}
use Rattle.x86.specs.declared.operands.RegisterOrMemory.{RegisterOrMemory}
use Rattle.x86.specs.declared.operands.RegisterOrMemory.TheVariants.{Register, Memory}
use Rattle.x86.specs.declared.instructions.Instruction.{Instruction}
use Rattle.x86.specs.declared.forms.Alone.{Alone as AloneForm}
use Rattle.x86.specs.declared.forms.WithImmediate.{WithImmediate as ImmediateForm}
use Rattle.x86.specs.declared.forms.WithOperand.{WithOperand as OperandForm}
use Rattle.x86.specs.declared.forms.WithBoth.{WithBoth as BothForm}
use Rattle.x86.specs.declared.forms.Form.{Form}
use Rattle.x86.specs.declared.forms.Form.TheVariants.{Alone, WithImmediate, WithOperand, WithBoth}
use Rattle.x86.specs.Numbers.{register_of, scale_of}
use Rattle.x86.specs.Rows.{Opcodes, only, eight, sixteen, every_eighth, Row, one_byte_rows, two_byte_rows}
use Rattle.x86.specs.Meanings.{extended, alone_means, immediate_width, immediate_means, operand_means, both_width, both_means}

-- how many opcodes a row has
abbrev pub count : Opcodes → ℕ
count (only o) = 1
count (eight o) = 8
count (sixteen o) = 16
count (every_eighth t) = 8

-- the opcode of a row with the number n in it
abbrev pub opcode : Opcodes → ℕ → ℕ
opcode (only o) n = o
opcode (eight o) n = o + n
opcode (sixteen o) n = o + n
opcode (every_eighth t) n = 8 * n + t

-- a row stands in a list of rows
pub data Among : Row → List Row → Type 0 where
  first : {r : Row} {rs : List Row} → Among r (r ∷ rs)
  later : {r s : Row} {rs : List Row} → Among r rs → Among r (s ∷ rs)

-- the opcode bytes of a form with the number n
pub data Opens : Form → ℕ → List ℕ → Type 0 where
  one_byte : (r : Row) (n : ℕ) → Among r one_byte_rows → n < count r.opcodes → Opens r.form n (opcode r.opcodes n ∷ [])
  two_byte : (r : Row) (n : ℕ) → Among r two_byte_rows → n < count r.opcodes → Opens r.form n (0x0F ∷ (opcode r.opcodes n ∷ []))

-- the bytes of a number, lowest first
pub data Spells : Width → ℕ → List ℕ → Type 0 where
  byte : (b : ℕ) → b < 256 → Spells Byte b (b ∷ [])
  long : (a b c d : ℕ) → a < 256 → b < 256 → c < 256 → d < 256 → Spells Long (a + 256 * (b + 256 * (c + 256 * d))) (a ∷ (b ∷ (c ∷ (d ∷ []))))

-- the bytes of a displacement, sign-extended to 32 bits, or of none
pub data Displaces : Option Width → Option ℕ → List ℕ → Type 0 where
  not_at_all : Displaces None None []
  by : (w : Width) (v : ℕ) (bs : List ℕ) → Spells w v bs → Displaces (Some w) (Some (extended w v)) bs

-- the three fields of a ModRM byte or a SIB byte
abbrev pub fields : ℕ → ℕ → ℕ → ℕ
fields high middle low = 64 * high + (8 * middle + low)

-- mod and a number: the base register, and how wide the displacement is
pub data Bases : ℕ → ℕ → Option Register32 → Option Width → Type 0 where
  plain : (n : ℕ) → n < 8 → (n ≢ 5) → Bases 0 n (Some (register_of n)) None
  absolute : Bases 0 5 None (Some Long)
  near : (n : ℕ) → n < 8 → Bases 1 n (Some (register_of n)) (Some Byte)
  far : (n : ℕ) → n < 8 → Bases 2 n (Some (register_of n)) (Some Long)

-- a SIB byte's scale and index: the number 4 is no register
pub data Indexes : ℕ → ℕ → Option Register32 → Type 0 where
  scaled_by : (s i : ℕ) → s < 4 → i < 8 → (i ≢ 4) → Indexes s i (Some (register_of i))
  unscaled : (s : ℕ) → s < 4 → Indexes s 4 None

abbrev pub index : Option Register32 → ℕ → Index
index r s = record { register = r; scale = scale_of s }

abbrev pub address : Option Register32 → Option Index → Option ℕ → Address
address b i d = record { base = b; index = i; displacement = d }

-- mod, rm, the address that they name, and the bytes behind the ModRM byte: rm 4 means that a SIB byte follows
pub data Addresses : ℕ → ℕ → Address → List ℕ → Type 0 where
  based :
      (m n : ℕ) (b : Option Register32) (w : Option Width) (d : Option ℕ) (bs : List ℕ) → Bases m n b w → (n ≢ 4) → Displaces w d bs →
      Addresses m n (address b None d) bs
  scaled :
      (m s i n : ℕ) (b x : Option Register32) (w : Option Width) (d : Option ℕ) (bs : List ℕ) → Bases m n b w → Indexes s i x →
      Displaces w d bs → Addresses m 4 (address b (Some (index x s)) d) (fields s i n ∷ bs)

-- reg, the operand, and the bytes from the ModRM byte on: mod 3 is a register
pub data Names : ℕ → RegisterOrMemory → List ℕ → Type 0 where
  register : (r n : ℕ) → r < 8 → n < 8 → Names r (Register n) (fields 3 r n ∷ [])
  memory : (r m n : ℕ) (a : Address) (bs : List ℕ) → r < 8 → Addresses m n a bs → Names r (Memory a) (fields m r n ∷ bs)

-- the instruction of a form with the number n, and the bytes behind its opcode
pub data Follows : Form → ℕ → Instruction → List ℕ → Type 0 where
  nothing : (f : AloneForm) (n : ℕ) → Follows (Alone f) n (alone_means f n) []
  immediate : (f : ImmediateForm) (n v : ℕ) (vs : List ℕ) → Spells (immediate_width f) v vs → Follows (WithImmediate f) n (immediate_means f n v) vs
  operand :
      (f : OperandForm) (n r : ℕ) (e : RegisterOrMemory) (es : List ℕ) (i : Instruction) → Names r e es → operand_means f n r e ≡ Some i →
      Follows (WithOperand f) n i es
  both :
      (f : BothForm) (n r : ℕ) (e : RegisterOrMemory) (es : List ℕ) (v : ℕ) (vs : List ℕ) (i : Instruction) → Names r e es →
      Spells (both_width f) v vs → both_means f r e v ≡ Some i → Follows (WithBoth f) n i (es ++ vs)

-- an instruction and its bytes
pub data Encodes : Instruction → List ℕ → Type 0 where
  encoding : (f : Form) (n : ℕ) (i : Instruction) (os bs : List ℕ) → Opens f n os → Follows f n i bs → Encodes i (os ++ bs)
