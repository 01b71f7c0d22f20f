-- Instructions and pairs.
use Rattle.std.specs.Prelude.{ℕ, ◌+◌, ◌%◌, ◌^◌, List, ◌++◌, codes}
use Rattle.x86.specs.Instructions.{target_from}
use Rattle.x86.specs.Pairs.{mask_of, leave_of}
use Rattle.x86.specs.declared.registers.Register.{Register as Register32}
use Rattle.x86.specs.declared.registers.Width.{Width}
use Rattle.x86.specs.declared.operands.Operand.{Operand}
use Rattle.x86.specs.declared.operands.Source.{Source}
use Rattle.x86.specs.declared.instructions.Straight.{Straight as StraightForm}
use Rattle.x86.specs.declared.instructions.Straight.TheVariants.{Arithmetic, Test, Move, LoadAddress, Increment, Decrement, Push, Pop, Nop, Halt}
use Rattle.x86.specs.declared.instructions.Direct.{Direct as DirectForm}
use Rattle.x86.specs.declared.instructions.Direct.TheVariants as direct
use Rattle.x86.specs.declared.instructions.Loose.{Loose as LooseForm}
use Rattle.x86.specs.declared.instructions.Loose.TheVariants as loose
use Rattle.x86.specs.declared.instructions.Instruction.{Instruction}
use Rattle.x86.specs.declared.instructions.Instruction.TheVariants.{Straight, Direct, Loose}
use Rattle.x86.specs.declared.instructions.Decoded.{Decoded}
use Rattle.x86.specs.declared.pairs.Pair.{Pair}
use Rattle.syntax.specs.Names.{register_name, segment_name, operation_name, jump_name}
use Rattle.syntax.specs.Numbers.{number_text}
use Rattle.syntax.specs.Addresses.{address_text}
use Rattle.syntax.specs.Operands.{operand_text, source_text}
use Rattle.syntax.specs.Mnemonics.{mnemonic_text}

-- a mnemonic with what it writes to and what it reads
abbrev pub two_operands_text : List ℕ → Width → Operand → Source → List ℕ
two_operands_text m w o s = mnemonic_text m ++ (operand_text w o ++ (codes "," ++ source_text w s))

-- a mnemonic with one register
abbrev pub one_register_text : List ℕ → Register32 → List ℕ
one_register_text m r = mnemonic_text m ++ register_name r

-- an instruction that goes on to the next one
abbrev pub straight_text : StraightForm → List ℕ
straight_text (Arithmetic k w o s) = two_operands_text (operation_name k) w o s
straight_text (Test w o s) = two_operands_text (codes "test") w o s
straight_text (Move w o s) = two_operands_text (codes "mov") w o s
straight_text (LoadAddress r a) = mnemonic_text (codes "lea") ++ (register_name r ++ (codes "," ++ address_text a))
straight_text (Increment r) = one_register_text (codes "inc") r
straight_text (Decrement r) = one_register_text (codes "dec") r
straight_text (Push r) = one_register_text (codes "push") r
straight_text (Pop r) = one_register_text (codes "pop") r
straight_text Nop = codes "nop"
straight_text Halt = codes "hlt"

-- the mnemonic of a direct form
abbrev pub direct_name : DirectForm → List ℕ
direct_name (direct.Jump d) = codes "jmp"
direct_name (direct.Call d) = codes "call"
direct_name (direct.Conditional k d) = jump_name k

-- an instruction that stands in a pair, or nowhere in a module
abbrev pub loose_text : LooseForm → List ℕ
loose_text (loose.Jump r) = one_register_text (codes "jmp") r
loose_text (loose.Call r) = one_register_text (codes "call") r
loose_text loose.Return = codes "ret"
loose_text (loose.Interrupt n) = mnemonic_text (codes "int") ++ number_text n
loose_text (loose.LoadSegment s r) = mnemonic_text (codes "mov") ++ (segment_name s ++ (codes "," ++ register_name r))

-- an instruction of n bytes at p; a direct form shows the address that it goes to
abbrev pub instruction_text : ℕ → ℕ → Instruction → List ℕ
instruction_text p n (Straight i) = straight_text i
instruction_text p n (Direct i) = mnemonic_text (direct_name i) ++ number_text (target_from ((p + n) % 2 ^ 32) i)
instruction_text p n (Loose i) = loose_text i

-- what the decoder found at p
abbrev pub decoded_text : ℕ → Decoded → List ℕ
decoded_text p d = instruction_text p d.length d.instruction

-- the two halves of a pair
abbrev pub pair_text : Pair → List ℕ
pair_text p = straight_text (mask_of p.register) ++ (codes "; " ++ loose_text (leave_of p.transfer p.register))
