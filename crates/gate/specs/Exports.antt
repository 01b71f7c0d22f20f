-- A verdict in numbers.
use Rattle.std.specs.Prelude.{ℕ, Some, None, Ok, Err, Option, Result}
use Rattle.std.specs.Option.{unwrap_or}
use Rattle.gate.specs.declared.exports.Verdict.{Verdict}
use Rattle.gate.specs.declared.refusals.Refusal.{Refusal}
use Rattle.gate.specs.Refusals.{number_of, address_of}

-- 0 for a pass, or the number of the check that refuses
abbrev pub number_in : Option Refusal → ℕ
number_in None = 0
number_in (Some r) = number_of r

-- the address that a refusal is about, and 0 where there is none
abbrev pub address_in : Option Refusal → ℕ
address_in None = 0
address_in (Some r) = unwrap_or (address_of r) 0

-- a verdict in numbers
abbrev pub in_numbers : Result (Unit {0}) Refusal → Verdict
in_numbers (Ok x) = record { number = number_in None; address = address_in None }
in_numbers (Err r) = record { number = number_in (Some r); address = address_in (Some r) }
