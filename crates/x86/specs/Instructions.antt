-- What is said of an instruction as a whole.
use Rattle.std.specs.Prelude.{ℕ, ◌+◌, ◌%◌, ◌^◌, Some, None, Option}
use Rattle.x86.specs.declared.instructions.Class.{Class}
use Rattle.x86.specs.declared.instructions.Class.TheVariants as class
use Rattle.x86.specs.declared.instructions.Direct.{Direct as DirectForm}
use Rattle.x86.specs.declared.instructions.Direct.TheVariants.{Jump, Call, Conditional}
use Rattle.x86.specs.declared.instructions.Instruction.{Instruction}
use Rattle.x86.specs.declared.instructions.Instruction.TheVariants.{Straight, Direct, Loose}
use Rattle.x86.specs.declared.instructions.Decoded.{Decoded}

-- the list of forms that an instruction is in
abbrev pub class_of : Instruction → Class
class_of (Straight i) = class.Straight
class_of (Direct i) = class.Direct
class_of (Loose i) = class.Loose

-- how far a direct form's target lies from its end
abbrev pub displacement_of : DirectForm → ℕ
displacement_of (Jump d) = d
displacement_of (Call d) = d
displacement_of (Conditional k d) = d

-- the end of a direct form plus its displacement, modulo 2^32
abbrev pub target_from : ℕ → DirectForm → ℕ
target_from end d = (end + displacement_of d) % 2 ^ 32

-- where an instruction of n bytes at p goes to, if it is direct
abbrev pub target : ℕ → ℕ → Instruction → Option ℕ
target n p (Straight i) = None
target n p (Direct i) = Some (target_from ((p + n) % 2 ^ 32) i)
target n p (Loose i) = None

abbrev pub target_of : Decoded → ℕ → Option ℕ
target_of d p = target d.length p d.instruction
