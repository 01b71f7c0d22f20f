-- Bytes written and copied one after another.
use Rattle.std.specs.Prelude.{ℕ, ◌+◌, cond, List, [], ◌∷◌, ◌++◌, length, take, drop, Ok, Err, Result, nat_lt}
use Rattle.memory.specs.Access.{Outcome, put_of}
use Rattle.memory.specs.Data.{parts}
use Rattle.memory.specs.Meaning.{Meaning}
use Rattle.memory.specs.declared.data.Datum.TheVariants.{Byte}
use Rattle.memory.specs.declared.faults.MemoryFault.{MemoryFault}
use Rattle.memory.specs.declared.faults.MemoryFault.TheVariants.{Outside}

-- what comes after a put that is granted; a refusal is the end
abbrev pub onward : Outcome → (Meaning → Outcome) → Outcome
onward (Ok u, m) next = next m
onward (Err e, m) next = (Err e, m)

-- writing bytes one by one from a on
abbrev pub write_of : Meaning → ℕ → List ℕ → Outcome
write_of m a [] = (Ok tt, m)
write_of m a (b ∷ bs) = onward (put_of m a (parts (Byte b))) (λ n. write_of n (a + 1) bs)

-- as many of the k bytes from a on as the memory has
abbrev pub bytes_of : Meaning → ℕ → ℕ → List ℕ
bytes_of m a k = take k (drop a m.bytes)

-- the answer of copying k bytes from a on: the first that is outside is named
abbrev pub copy_answer : Meaning → ℕ → ℕ → Result (Unit {0}) MemoryFault
copy_answer m a k = cond (nat_lt (length (bytes_of m a k)) k) (Err (Outside (a + length (bytes_of m a k)))) (Ok tt)

-- a buffer with the bytes xs over its start
abbrev pub filled : List ℕ → List ℕ → List ℕ
filled buffer xs = xs ++ drop (length xs) buffer

-- the answer of filling a buffer from a on, and the buffer after it
abbrev pub copy_of : Meaning → ℕ → List ℕ → Result (Unit {0}) MemoryFault × List ℕ
copy_of m a buffer = (copy_answer m a (length buffer), filled buffer (bytes_of m a (length buffer)))
