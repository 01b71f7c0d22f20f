-- Intel's numbers of registers, operations, conditions and scales. A number past the last names the last.
use Rattle.std.specs.Prelude.{ℕ, cond, Some, None, Option, ◌==◌}
use Rattle.x86.specs.declared.registers.Register.{Register}
use Rattle.x86.specs.declared.registers.Register.TheVariants.{Eax, Ecx, Edx, Ebx, Esp, Ebp, Esi, Edi}
use Rattle.x86.specs.declared.registers.ByteRegister.{ByteRegister}
use Rattle.x86.specs.declared.registers.ByteRegister.TheVariants.{Al, Cl, Dl, Bl, Ah, Ch, Dh, Bh}
use Rattle.x86.specs.declared.registers.SegmentRegister.{SegmentRegister}
use Rattle.x86.specs.declared.registers.SegmentRegister.TheVariants.{Es, Ss, Ds, Fs, Gs}
use Rattle.x86.specs.declared.registers.Width.{Width}
use Rattle.x86.specs.declared.registers.Width.TheVariants.{Byte, Long}
use Rattle.x86.specs.declared.registers.Operation.{Operation}
use Rattle.x86.specs.declared.registers.Operation.TheVariants.{Add, Or, Adc, Sbb, And, Sub, Xor, Cmp}
use Rattle.x86.specs.declared.registers.Condition.{Condition}
use Rattle.x86.specs.declared.registers.Condition.TheVariants as condition
use Rattle.x86.specs.declared.registers.Scale.{Scale}
use Rattle.x86.specs.declared.registers.Scale.TheVariants.{One, Two, Four, Eight}

abbrev pub register_of : ℕ → Register
register_of n =
    cond (n == 0) Eax (cond (n == 1) Ecx (cond (n == 2) Edx (cond (n == 3) Ebx
    (cond (n == 4) Esp (cond (n == 5) Ebp (cond (n == 6) Esi Edi))))))

abbrev pub byte_register_of : ℕ → ByteRegister
byte_register_of n =
    cond (n == 0) Al (cond (n == 1) Cl (cond (n == 2) Dl (cond (n == 3) Bl
    (cond (n == 4) Ah (cond (n == 5) Ch (cond (n == 6) Dh Bh))))))

-- the segment registers that an instruction may load: not CS
abbrev pub segment_of : ℕ → Option SegmentRegister
segment_of n =
    cond (n == 0) (Some Es) (cond (n == 2) (Some Ss) (cond (n == 3) (Some Ds) (cond (n == 4) (Some Fs) (cond (n == 5) (Some Gs) None))))

-- how many bytes an operand or an immediate of a width has
abbrev pub width_bytes : Width → ℕ
width_bytes Byte = 1
width_bytes Long = 4

abbrev pub operation_of : ℕ → Operation
operation_of n =
    cond (n == 0) Add (cond (n == 1) Or (cond (n == 2) Adc (cond (n == 3) Sbb
    (cond (n == 4) And (cond (n == 5) Sub (cond (n == 6) Xor Cmp))))))

abbrev pub condition_of : ℕ → Condition
condition_of n =
    cond (n == 0) condition.O (cond (n == 1) condition.No (cond (n == 2) condition.B (cond (n == 3) condition.Ae
    (cond (n == 4) condition.E (cond (n == 5) condition.Ne (cond (n == 6) condition.Be (cond (n == 7) condition.A
    (cond (n == 8) condition.S (cond (n == 9) condition.Ns (cond (n == 10) condition.P (cond (n == 11) condition.Np
    (cond (n == 12) condition.L (cond (n == 13) condition.Ge (cond (n == 14) condition.Le condition.G))))))))))))))

abbrev pub scale_of : ℕ → Scale
scale_of n = cond (n == 0) One (cond (n == 1) Two (cond (n == 2) Four Eight))
