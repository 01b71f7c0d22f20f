use Rattle.std.specs.Fmt.{IsPlainFormatter, HasWritten}
use Rattle.std.proofs.Common.{take}
use Rattle.script.specs.Spelled.{spelling}
use Rattle.script.proofs.spelling.SpelledDisplay.fmt.Given as goal

-- the bytes so far have been written
abbrev pub invariant-loop-byte : goal.invariant-loop-byte
invariant-loop-byte g l = IsPlainFormatter l.initial.f → HasWritten g.W.Write.write_str_gives l.initial.f (spelling (take l.byte-index l.bytes)) l.f
