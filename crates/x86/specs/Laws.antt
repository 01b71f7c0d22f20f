-- What holds between the decoder's answers and the grammar.
use Rattle.std.specs.Prelude.{◌≡◌, ℕ, ◌+◌, ◌<◌, ◌≤◌, List, [], ◌∷◌, ◌++◌, length, take, drop, Some, Option, ◌≢◌}
use Rattle.x86.specs.declared.instructions.Instruction.{Instruction}
use Rattle.x86.specs.declared.instructions.Instruction.TheVariants.{Straight, Loose}
use Rattle.x86.specs.declared.instructions.Decoded.{Decoded}
use Rattle.x86.specs.declared.pairs.Transfer.{Transfer}
use Rattle.x86.specs.declared.pairs.Transfer.TheVariants.{Jump, Call}
use Rattle.x86.specs.declared.pairs.Pair.{Pair}
use Rattle.x86.specs.Numbers.{register_of}
use Rattle.x86.specs.Decoded.{instruction_of}
use Rattle.x86.specs.Instructions.{class_of}
use Rattle.x86.specs.Pairs.{pair_of, mask_of, leave_of}
use Rattle.x86.specs.Grammar.{Encodes}

-- the n bytes from p on are some, and lie inside
abbrev pub Inside : List ℕ → ℕ → ℕ → Type 0
Inside bs p n = (0 < n) × (p + n ≤ length bs)

-- an encoding that stands at p is answered with its instruction and its whole length, whatever bytes follow
abbrev pub EveryEncoding : List ℕ → ℕ → Option Decoded → Type 0
EveryEncoding bs p answer =
    (i : Instruction) (e after : List ℕ) → Encodes i e → drop p bs ≡ e ++ after → answer ≡ Some (instruction_of i (length e))

-- whatever is answered is an encoding that stands at p
abbrev pub OnlyEncodings : List ℕ → ℕ → Option Decoded → Type 0
OnlyEncodings bs p answer =
    (d : Decoded) → answer ≡ Some d → Encodes d.instruction (take d.length (drop p bs))

-- no encoding is a proper prefix of another, and no bytes are two instructions
abbrev pub Unambiguous : Type 0
Unambiguous =
    (i j : Instruction) (e f x y : List ℕ) → Encodes i e → Encodes j f → e ++ x ≡ f ++ y → (e ≡ f) × (i ≡ j)

-- no bytes are a form of two classes
abbrev pub ClassesApart : Type 0
ClassesApart = (i j : Instruction) (e : List ℕ) → Encodes i e → Encodes j e → class_of i ≡ class_of j

-- a form has at least one byte and at most eleven
abbrev pub Short : Type 0
Short = (i : Instruction) (e : List ℕ) → Encodes i e → (1 ≤ length e) × (length e ≤ 11)

-- the first half of a pair masks the register n
abbrev pub mask : ℕ → List ℕ
mask n = 0x83 ∷ ((0xE0 + n) ∷ (0xE0 ∷ []))

-- the ModRM byte of a jump or a call through the register n
abbrev pub through : Transfer → ℕ → ℕ
through Jump n = 0xE0 + n
through Call n = 0xD0 + n

-- the second half leaves through the register n
abbrev pub leave : Transfer → ℕ → List ℕ
leave t n = 0xFF ∷ (through t n ∷ [])

-- a pair and its bytes: its register is not ESP, whose number is 4
pub data Pairs : Pair → List ℕ → Type 0 where
  paired : (n : ℕ) (t : Transfer) → n < 8 → (n ≢ 4) → Pairs (pair_of (register_of n) t) (mask n ++ leave t n)

-- a pair that stands at p is answered, whatever bytes follow
abbrev pub EveryPair : List ℕ → ℕ → Option Pair → Type 0
EveryPair bs p answer = (x : Pair) (e after : List ℕ) → Pairs x e → drop p bs ≡ e ++ after → answer ≡ Some x

-- whatever is answered is a pair that stands at p
abbrev pub OnlyPairs : List ℕ → ℕ → Option Pair → Type 0
OnlyPairs bs p answer = (x : Pair) → answer ≡ Some x → Pairs x (take 5 (drop p bs))

-- the first three bytes of a pair are an encoding of the masking AND, the last two of the loose jump or call
abbrev pub Halves : Type 0
Halves =
    (x : Pair) (e : List ℕ) → Pairs x e →
    Encodes (Straight (mask_of x.register)) (take 3 e) × Encodes (Loose (leave_of x.transfer x.register)) (drop 3 e)
