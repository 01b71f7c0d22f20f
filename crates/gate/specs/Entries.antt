-- The entry row: a base and a count of entries, 32 bytes apart.
use Rattle.std.specs.Prelude.{ℕ, ◌+◌, ◌-◌, ◌*◌, ◌/◌, ◌%◌, ◌^◌, Bool, ◌&&◌, ◌==◌, nat_le, nat_lt}
use Rattle.gate.specs.declared.entries.EntryRow.{EntryRow}

-- at most 64 entries, behind an image of n bytes, on multiples of 32, and none reaches past 2^32
abbrev pub row_fits : EntryRow → ℕ → Bool
row_fits row n =
    nat_le row.count 64 && (nat_le n row.base && (row.base % 32 == 0 && nat_le (row.base + 32 * row.count) (2 ^ 32)))

-- an entry begins at the address t
abbrev pub is_entry : EntryRow → ℕ → Bool
is_entry row t = nat_le row.base t && ((t - row.base) % 32 == 0 && nat_lt ((t - row.base) / 32) row.count)
