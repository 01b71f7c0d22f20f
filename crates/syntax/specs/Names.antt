-- The words of the syntax, as objdump spells them.
use Rattle.std.specs.Prelude.{ℕ, List, codes}
use Rattle.x86.specs.declared.registers.Register.{Register}
use Rattle.x86.specs.declared.registers.Register.TheVariants.{Eax, Ecx, Edx, Ebx, Esp, Ebp, Esi, Edi}
use Rattle.x86.specs.declared.registers.ByteRegister.{ByteRegister}
use Rattle.x86.specs.declared.registers.ByteRegister.TheVariants.{Al, Cl, Dl, Bl, Ah, Ch, Dh, Bh}
use Rattle.x86.specs.declared.registers.SegmentRegister.{SegmentRegister}
use Rattle.x86.specs.declared.registers.SegmentRegister.TheVariants.{Es, Cs, Ss, Ds, Fs, Gs}
use Rattle.x86.specs.declared.registers.Width.{Width}
use Rattle.x86.specs.declared.registers.Width.TheVariants.{Byte, Long}
use Rattle.x86.specs.declared.registers.Scale.{Scale}
use Rattle.x86.specs.declared.registers.Scale.TheVariants.{One, Two, Four, Eight}
use Rattle.x86.specs.declared.registers.Operation.{Operation}
use Rattle.x86.specs.declared.registers.Operation.TheVariants.{Add, Or, Adc, Sbb, And, Sub, Xor, Cmp}
use Rattle.x86.specs.declared.registers.Condition.{Condition}
use Rattle.x86.specs.declared.registers.Condition.TheVariants as condition

-- the name of a 32-bit register
abbrev pub register_name : Register → List ℕ
register_name Eax = codes "eax"
register_name Ecx = codes "ecx"
register_name Edx = codes "edx"
register_name Ebx = codes "ebx"
register_name Esp = codes "esp"
register_name Ebp = codes "ebp"
register_name Esi = codes "esi"
register_name Edi = codes "edi"

-- the name of a byte register
abbrev pub byte_register_name : ByteRegister → List ℕ
byte_register_name Al = codes "al"
byte_register_name Cl = codes "cl"
byte_register_name Dl = codes "dl"
byte_register_name Bl = codes "bl"
byte_register_name Ah = codes "ah"
byte_register_name Ch = codes "ch"
byte_register_name Dh = codes "dh"
byte_register_name Bh = codes "bh"

-- the name of a segment register
abbrev pub segment_name : SegmentRegister → List ℕ
segment_name Es = codes "es"
segment_name Cs = codes "cs"
segment_name Ss = codes "ss"
segment_name Ds = codes "ds"
segment_name Fs = codes "fs"
segment_name Gs = codes "gs"

-- the size that stands before a place in memory
abbrev pub width_name : Width → List ℕ
width_name Byte = codes "BYTE PTR"
width_name Long = codes "DWORD PTR"

-- the factor of an index
abbrev pub scale_name : Scale → List ℕ
scale_name One = codes "1"
scale_name Two = codes "2"
scale_name Four = codes "4"
scale_name Eight = codes "8"

-- the mnemonic of an operation
abbrev pub operation_name : Operation → List ℕ
operation_name Add = codes "add"
operation_name Or = codes "or"
operation_name Adc = codes "adc"
operation_name Sbb = codes "sbb"
operation_name And = codes "and"
operation_name Sub = codes "sub"
operation_name Xor = codes "xor"
operation_name Cmp = codes "cmp"

-- the mnemonic of the jump that is taken under a condition
abbrev pub jump_name : Condition → List ℕ
jump_name condition.O = codes "jo"
jump_name condition.No = codes "jno"
jump_name condition.B = codes "jb"
jump_name condition.Ae = codes "jae"
jump_name condition.E = codes "je"
jump_name condition.Ne = codes "jne"
jump_name condition.Be = codes "jbe"
jump_name condition.A = codes "ja"
jump_name condition.S = codes "js"
jump_name condition.Ns = codes "jns"
jump_name condition.P = codes "jp"
jump_name condition.Np = codes "jnp"
jump_name condition.L = codes "jl"
jump_name condition.Ge = codes "jge"
jump_name condition.Le = codes "jle"
jump_name condition.G = codes "jg"
