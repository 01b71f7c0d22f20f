-- The aligned sandbox policy, in its own words.
use Rattle.std.specs.Prelude.{◌≡◌, ℕ, ◌+◌, ◌*◌, ◌/◌, ◌%◌, ◌<◌, ◌⊎◌, List, [], ◌∷◌, ◌++◌, length, Some}
use Rattle.x86.specs.declared.instructions.Loose.{Loose as LooseForm}
use Rattle.x86.specs.declared.instructions.Loose.TheVariants as loose
use Rattle.x86.specs.declared.instructions.Instruction.{Instruction}
use Rattle.x86.specs.declared.instructions.Instruction.TheVariants.{Straight, Direct, Loose}
use Rattle.x86.specs.declared.pairs.Transfer.{Transfer}
use Rattle.x86.specs.Grammar.{Encodes}
use Rattle.x86.specs.Instructions.{target}
use Rattle.x86.specs.Laws.{mask, leave}
use Rattle.gate.specs.declared.entries.EntryRow.{EntryRow}

-- an instruction of an image: the address where it stands, what it is, and its bytes
pub record Placed : Type 0 where
  pub address : ℕ
  pub instruction : Instruction
  pub bytes : List ℕ

abbrev pub placed : ℕ → Instruction → List ℕ → Placed
placed p i e = record { address = p; instruction = i; bytes = e }

-- the bytes from the address p on divide into these instructions, laid end to end
pub data Divides : ℕ → List ℕ → List Placed → Type 0 where
  done : (p : ℕ) → Divides p [] []
  next : (p : ℕ) (i : Instruction) (e rest : List ℕ) (is : List Placed) → Encodes i e → Divides (p + length e) rest is →
      Divides p (e ++ rest) (placed p i e ∷ is)

-- an instruction is one of these
pub data Among : Placed → List Placed → Type 0 where
  here : (x : Placed) (is : List Placed) → Among x (x ∷ is)
  there : (x y : Placed) (is : List Placed) → Among x is → Among x (y ∷ is)

-- one of these directly follows another
pub data Adjacent : Placed → Placed → List Placed → Type 0 where
  first : (x y : Placed) (is : List Placed) → Adjacent x y (x ∷ (y ∷ is))
  further : (x y z : Placed) (is : List Placed) → Adjacent x y is → Adjacent x y (z ∷ is)

-- a jump or a call through a register
abbrev pub LeavesLoose : LooseForm → Type 0
LeavesLoose (loose.Jump r) = Unit {0}
LeavesLoose (loose.Call r) = Unit {0}
LeavesLoose loose.Return = ⊥
LeavesLoose (loose.Interrupt n) = ⊥
LeavesLoose (loose.LoadSegment s r) = ⊥

abbrev pub Leaves : Instruction → Type 0
Leaves (Straight i) = ⊥
Leaves (Direct i) = ⊥
Leaves (Loose i) = LeavesLoose i

-- straight, direct, or a jump or call through a register
abbrev pub Permitted : Instruction → Type 0
Permitted (Straight i) = Unit {0}
Permitted (Direct i) = Unit {0}
Permitted (Loose i) = LeavesLoose i

-- y goes through a register other than ESP that x masks with the byte E0, and both lie in one block of 32 bytes
pub record Guards (x y : Placed) : Type 0 where
  pub number : ℕ
  pub transfer : Transfer
  pub small : number < 8
  pub other : number ≡ 4 → ⊥
  pub masks : x.bytes ≡ mask number
  pub leaves : y.bytes ≡ leave transfer number
  pub block : x.address / 32 ≡ (y.address + 1) / 32

-- an address where one of these stands that is no jump or call through a register
pub record Lands (is : List Placed) (a : ℕ) : Type 0 where
  pub instruction : Placed
  pub listed : Among instruction is
  pub stands : instruction.address ≡ a
  pub plain : Leaves instruction.instruction → ⊥

pub record Guarded (is : List Placed) (y : Placed) : Type 0 where
  pub guard : Placed
  pub before : Adjacent guard y is
  pub guards : Guards guard y

pub record Standing (is : List Placed) (a : ℕ) : Type 0 where
  pub instruction : Placed
  pub listed : Among instruction is
  pub stands : instruction.address ≡ a

-- t is an entry of the row: so many times 32 behind its base, for a number below its count
pub record Entry (row : EntryRow) (t : ℕ) : Type 0 where
  pub number : ℕ
  pub below : number < row.count
  pub stands : t ≡ row.base + 32 * number

-- an image meets the policy with an entry row
pub record Meets (image : List ℕ) (row : EntryRow) : Type 0 where
  pub instructions : List Placed
  -- it divides into instructions laid end to end
  pub divides : Divides 0 image instructions
  -- each is straight, direct, or a jump or call through a register
  pub permitted : (x : Placed) → Among x instructions → Permitted x.instruction
  -- every multiple of 32 is the address of one of them
  pub aligned : (a : ℕ) → a < length image → a % 32 ≡ 0 → Standing instructions a
  -- each jump or call through a register directly follows the instruction that masks that register
  pub guarded : (y : Placed) → Among y instructions → Leaves y.instruction → Guarded instructions y
  -- each direct target is the address of an instruction that is no jump or call through a register, or an entry
  pub landing :
      (x : Placed) → Among x instructions → (t : ℕ) → target (length x.bytes) x.address x.instruction ≡ Some t →
      Lands instructions t ⊎ Entry row t
