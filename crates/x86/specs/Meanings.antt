-- Which instruction a form makes of the number in its opcode, of reg and the operand of its ModRM byte, and of its
-- immediate.
use Rattle.std.specs.Prelude.{ℕ, ◌+◌, ◌%◌, ◌^◌, cond, Some, None, Option, ◌==◌, nat_lt}
use Rattle.std.specs.Option.{option_map}
use Rattle.x86.specs.declared.registers.Width.{Width}
use Rattle.x86.specs.declared.registers.Width.TheVariants.{Byte, Long}
use Rattle.x86.specs.declared.operands.Operand.{Operand}
use Rattle.x86.specs.declared.operands.Operand.TheVariants as place
use Rattle.x86.specs.declared.operands.Source.{Source}
use Rattle.x86.specs.declared.operands.Source.TheVariants as source
use Rattle.x86.specs.declared.operands.RegisterOrMemory.{RegisterOrMemory}
use Rattle.x86.specs.declared.operands.RegisterOrMemory.TheVariants.{Register, Memory}
use Rattle.x86.specs.declared.instructions.Straight.TheVariants as straight
use Rattle.x86.specs.declared.instructions.Direct.TheVariants as direct
use Rattle.x86.specs.declared.instructions.Loose.TheVariants as loose
use Rattle.x86.specs.declared.instructions.Instruction.{Instruction}
use Rattle.x86.specs.declared.instructions.Instruction.TheVariants.{Straight, Direct, Loose}
use Rattle.x86.specs.declared.forms.Direction.{Direction}
use Rattle.x86.specs.declared.forms.Direction.TheVariants.{IntoOperand, IntoRegister}
use Rattle.x86.specs.declared.forms.Alone.{Alone}
use Rattle.x86.specs.declared.forms.Alone.TheVariants as alone
use Rattle.x86.specs.declared.forms.WithImmediate.{WithImmediate}
use Rattle.x86.specs.declared.forms.WithImmediate.TheVariants as immediate
use Rattle.x86.specs.declared.forms.WithOperand.{WithOperand}
use Rattle.x86.specs.declared.forms.WithOperand.TheVariants as operand
use Rattle.x86.specs.declared.forms.WithBoth.{WithBoth}
use Rattle.x86.specs.declared.forms.WithBoth.TheVariants as both
use Rattle.x86.specs.Numbers.{register_of, byte_register_of, segment_of, operation_of, condition_of}

-- a number of a width as a signed number of 32 bits
abbrev pub extended : Width → ℕ → ℕ
extended Byte v = cond (nat_lt v 0x80) v ((v + 0xFFFFFF00) % 2 ^ 32)
extended Long v = v

-- the register with a number at a width
abbrev pub register_at : Width → ℕ → Operand
register_at Byte n = place.ByteRegister (byte_register_of n)
register_at Long n = place.Register (register_of n)

-- what mod and rm name, at a width
abbrev pub operand_at : Width → RegisterOrMemory → Operand
operand_at w (Register n) = register_at w n
operand_at w (Memory a) = place.Memory a

-- the operand that is written to, and the one that is only read
abbrev pub in_order : Direction → Operand → Operand → Operand × Source
in_order IntoOperand e g = (e, source.Operand g)
in_order IntoRegister e g = (g, source.Operand e)

abbrev pub alone_means : Alone → ℕ → Instruction
alone_means alone.Increment n = Straight (straight.Increment (register_of n))
alone_means alone.Decrement n = Straight (straight.Decrement (register_of n))
alone_means alone.Push n = Straight (straight.Push (register_of n))
alone_means alone.Pop n = Straight (straight.Pop (register_of n))
alone_means alone.Nop n = Straight straight.Nop
alone_means alone.Halt n = Straight straight.Halt
alone_means alone.Return n = Loose loose.Return

abbrev pub immediate_width : WithImmediate → Width
immediate_width (immediate.Accumulator w) = w
immediate_width (immediate.Register w) = w
immediate_width (immediate.Jump w) = w
immediate_width immediate.Call = Long
immediate_width (immediate.Conditional w) = w
immediate_width immediate.Interrupt = Byte

abbrev pub immediate_means : WithImmediate → ℕ → ℕ → Instruction
immediate_means (immediate.Accumulator w) n v = Straight (straight.Arithmetic (operation_of n) w (register_at w 0) (source.Immediate v))
immediate_means (immediate.Register w) n v = Straight (straight.Move w (register_at w n) (source.Immediate v))
immediate_means (immediate.Jump w) n v = Direct (direct.Jump (extended w v))
immediate_means immediate.Call n v = Direct (direct.Call v)
immediate_means (immediate.Conditional w) n v = Direct (direct.Conditional (condition_of n) (extended w v))
immediate_means immediate.Interrupt n v = Loose (loose.Interrupt (v % 256))

-- FF: /2 is a call and /4 a jump, through a register
abbrev pub through_means : ℕ → RegisterOrMemory → Option Instruction
through_means reg (Register n) =
    cond (reg == 2) (Some (Loose (loose.Call (register_of n)))) (cond (reg == 4) (Some (Loose (loose.Jump (register_of n)))) None)
through_means reg (Memory a) = None

-- 8D: an address, so no register
abbrev pub address_means : ℕ → RegisterOrMemory → Option Instruction
address_means reg (Register n) = None
address_means reg (Memory a) = Some (Straight (straight.LoadAddress (register_of reg) a))

-- 8E: a register into a segment register that may be loaded
abbrev pub segment_means : ℕ → RegisterOrMemory → Option Instruction
segment_means reg (Register n) = option_map (λ s. Loose (loose.LoadSegment s (register_of n))) (segment_of reg)
segment_means reg (Memory a) = None

abbrev pub operand_means : WithOperand → ℕ → ℕ → RegisterOrMemory → Option Instruction
operand_means (operand.Arithmetic w d) n reg e =
    Some (Straight (straight.Arithmetic (operation_of n) w (in_order d (operand_at w e) (register_at w reg)).0 (in_order d (operand_at w e) (register_at w reg)).1))
operand_means (operand.Test w) n reg e = Some (Straight (straight.Test w (operand_at w e) (source.Operand (register_at w reg))))
operand_means (operand.Move w d) n reg e =
    Some (Straight (straight.Move w (in_order d (operand_at w e) (register_at w reg)).0 (in_order d (operand_at w e) (register_at w reg)).1))
operand_means operand.LoadAddress n reg e = address_means reg e
operand_means operand.Through n reg e = through_means reg e
operand_means operand.LoadSegment n reg e = segment_means reg e

abbrev pub both_width : WithBoth → Width
both_width (both.Arithmetic w) = w
both_width both.SignExtended = Byte
both_width (both.Move w) = w

abbrev pub both_means : WithBoth → ℕ → RegisterOrMemory → ℕ → Option Instruction
both_means (both.Arithmetic w) reg e v = Some (Straight (straight.Arithmetic (operation_of reg) w (operand_at w e) (source.Immediate v)))
both_means both.SignExtended reg e v = Some (Straight (straight.Arithmetic (operation_of reg) Long (operand_at Long e) (source.Immediate (extended Byte v))))
both_means (both.Move w) reg e v = cond (reg == 0) (Some (Straight (straight.Move w (operand_at w e) (source.Immediate v)))) None
