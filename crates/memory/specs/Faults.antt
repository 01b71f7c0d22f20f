-- The number and the values of each fault.
use Rattle.std.specs.Prelude.{ℕ, List, ◌++◌, codes, decimal}
use Rattle.memory.specs.declared.faults.MemoryFault.{MemoryFault}
use Rattle.memory.specs.declared.faults.MemoryFault.TheVariants.{Outside, NoFreePage}
use Rattle.memory.specs.declared.faults.Unfit.{Unfit}
use Rattle.memory.specs.declared.faults.Unfit.TheVariants.{Size, Frames}

-- 11 outside, 12 where pages are wanting
abbrev pub fault_number : MemoryFault → ℕ
fault_number (Outside a) = 11
fault_number (NoFreePage a) = 12

-- the address of the access that was refused
abbrev pub fault_address : MemoryFault → ℕ
fault_address (Outside a) = a
fault_address (NoFreePage a) = a

-- a fault in words
abbrev pub fault_text : MemoryFault → List ℕ
fault_text e = codes "refused " ++ (decimal (fault_number e) ++ (codes " at " ++ decimal (fault_address e)))

-- both are 10
abbrev pub unfit_number : Unfit → ℕ
unfit_number Size = 10
unfit_number Frames = 10

-- what would be fit, for people
abbrev pub unfit_reason : Unfit → List ℕ
unfit_reason Size = codes "a size is a multiple of 256 from 256 to 1048576"
unfit_reason Frames = codes "a paged memory has 1 to 4096 frames"

-- an unfit size or number of frames, in words
abbrev pub unfit_text : Unfit → List ℕ
unfit_text e = codes "refused " ++ (decimal (unfit_number e) ++ (codes ": " ++ unfit_reason e))
