-- The worked examples of the gate: an image, a row, the sizes of two marks buffers, and what comes of it.
use Rattle.std.specs.Prelude.{◌≡◌, ℕ, List, [], ◌∷◌, ◌++◌, length, replicate, Some, None, Option}
use Rattle.gate.specs.declared.entries.EntryRow.{EntryRow}
use Rattle.gate.specs.declared.refusals.Refusal.{Refusal}
use Rattle.gate.specs.declared.refusals.Refusal.TheVariants.{Length, Marks, Row, NoMatch, FarTarget, Unaligned, MidTarget}
use Rattle.gate.specs.Exports.{number_in, address_in}
use Rattle.gate.specs.Verdicts.{verdict_of, starts_after, targets_after}

-- n times the byte 90
abbrev pub nops : ℕ → List ℕ
nops n = replicate n 0x90

abbrev pub row : ℕ → ℕ → EntryRow
row e k = record { base = e; count = k }

-- mask and jump through EAX
abbrev pub pair : List ℕ
pair = 0x83 ∷ (0xE0 ∷ (0xE0 ∷ (0xFF ∷ (0xE0 ∷ []))))

pub record Example : Type 0 where
  pub image : List ℕ
  pub entries : EntryRow
  pub starts : List ℕ
  pub targets : List ℕ
  pub verdict : Option Refusal
  -- 0 for a pass, or the number of the check that refuses, and the address that it is about
  pub number : ℕ
  pub address : ℕ
  pub starts_then : List ℕ
  pub targets_then : List ℕ

-- refused, from buffers that hold 5A: with the buffers as they then are
abbrev pub refused : List ℕ → EntryRow → ℕ → ℕ → Refusal → ℕ → ℕ → ℕ → Example
refused i e s t r n a b =
    record { image = i; entries = e; starts = replicate s 0x5A; targets = replicate t 0x5A; verdict = Some r; number = n; address = a; starts_then = replicate s b; targets_then = replicate t b }

-- passed, from buffers of four bytes that hold 5A, with these starts and no targets below n
abbrev pub passed : List ℕ → EntryRow → List ℕ → Example
passed i e m =
    record { image = i; entries = e; starts = replicate 4 0x5A; targets = replicate 4 0x5A; verdict = None; number = 0; address = 0; starts_then = m; targets_then = replicate 4 0 }

abbrev pub examples : List Example
examples =
    -- one NOP too few
    refused (nops 31) (row 64 0) 4 4 Length 1 0 0x5A ∷
    -- a marks buffer one byte too small
    (refused (nops 64) (row 64 0) 7 8 Marks 2 0 0x5A ∷
    -- an entry row at no multiple of 32
    (refused (nops 32) (row 48 0) 4 4 Row 3 0 0x5A ∷
    -- a RET
    (refused (0xC3 ∷ nops 31) (row 64 0) 4 4 (NoMatch 0) 4 0 0 ∷
    -- a jump far behind the image
    (refused (0xEB ∷ (0x7E ∷ nops 30)) (row 64 0) 4 4 (FarTarget 0) 5 0 0 ∷
    -- a MOV across the boundary of a block
    (refused (nops 29 ++ (0xB8 ∷ nops 34)) (row 64 0) 8 8 (Unaligned 32) 6 32 0 ∷
    -- a jump into the middle of a MOV
    (refused (0xEB ∷ (0x01 ∷ (0xB8 ∷ nops 29))) (row 64 0) 4 4 (MidTarget 3) 7 3 0 ∷
    -- nothing but NOPs
    (passed (nops 32) (row 64 0) (0xFF ∷ (0xFF ∷ (0xFF ∷ (0xFF ∷ [])))) ∷
    -- a pair first
    (passed (pair ++ nops 27) (row 64 0) (0xE1 ∷ (0xFF ∷ (0xFF ∷ (0xFF ∷ [])))) ∷
    -- a jump to the first service, with an entry for it and without
    (passed (nops 30 ++ (0xEB ∷ (0x20 ∷ []))) (row 64 1) (0xFF ∷ (0xFF ∷ (0xFF ∷ (0x7F ∷ [])))) ∷
    (refused (nops 30 ++ (0xEB ∷ (0x20 ∷ []))) (row 64 0) 4 4 (FarTarget 30) 5 30 0 ∷
    -- a pair last, and one across the boundary of a block
    (passed (nops 27 ++ pair) (row 64 0) (0xFF ∷ (0xFF ∷ (0xFF ∷ (0x0F ∷ [])))) ∷
    (refused (nops 28 ++ (pair ++ nops 31)) (row 64 0) 8 8 (Unaligned 32) 6 32 0 ∷
    -- a mask of another register than the jump's
    (refused (0x83 ∷ (0xE1 ∷ (0xE0 ∷ (0xFF ∷ (0xE0 ∷ nops 27))))) (row 64 0) 4 4 (NoMatch 3) 4 3 0 ∷
    [])))))))))))))

-- an example comes out as it says: the verdict and its numbers, and both buffers after it
abbrev pub Comes : Example → Type 0
Comes x =
    (number_in x.verdict ≡ x.number) × (address_in x.verdict ≡ x.address) ×
    (verdict_of x.image x.entries (length x.starts) (length x.targets) ≡ x.verdict) ×
    (starts_after x.image x.entries x.starts x.targets ≡ x.starts_then) ×
    (targets_after x.image x.entries x.starts x.targets ≡ x.targets_then)

abbrev pub Settled : List Example → Type 0
Settled [] = Unit {0}
Settled (x ∷ xs) = Comes x × Settled xs
