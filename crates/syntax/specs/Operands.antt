-- What an instruction works on.
use Rattle.std.specs.Prelude.{ℕ, List, ◌++◌, codes}
use Rattle.x86.specs.declared.registers.Width.{Width}
use Rattle.x86.specs.declared.operands.Operand.{Operand as Place}
use Rattle.x86.specs.declared.operands.Operand.TheVariants.{Register, ByteRegister, Memory}
use Rattle.x86.specs.declared.operands.Source.{Source}
use Rattle.x86.specs.declared.operands.Source.TheVariants.{Operand, Immediate}
use Rattle.syntax.specs.Names.{register_name, byte_register_name, width_name}
use Rattle.syntax.specs.Numbers.{number_text}
use Rattle.syntax.specs.Addresses.{address_text}

-- a register by its name, a place in memory behind its size
abbrev pub operand_text : Width → Place → List ℕ
operand_text w (Register r) = register_name r
operand_text w (ByteRegister r) = byte_register_name r
operand_text w (Memory a) = width_name w ++ (codes " " ++ address_text a)

-- what is only read: an operand, or a number
abbrev pub source_text : Width → Source → List ℕ
source_text w (Operand o) = operand_text w o
source_text w (Immediate n) = number_text n
