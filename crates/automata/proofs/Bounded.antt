-- Each entry of a table is a state.
use Rattle.std.proofs.Common.{ℕ, ◌<◌, ltb, ltb→lt}
use Rattle.automata.specs.Straights.{straight_next}
use Rattle.automata.specs.Directs.{direct_next}
use Rattle.automata.specs.Masks.{pair_next}
use Rattle.automata.proofs.Table.{grid}

pub straight_bound : (s b : ℕ) → s < 21 → b < 256 → straight_next s b < 21
unfolding straight_next
straight_bound s b hs hb = ltb→lt (straight_next s b) 21 (grid (λ s b. ltb (straight_next s b) 21) 21 256 tt s b hs hb)

pub direct_bound : (s b : ℕ) → s < 8 → b < 256 → direct_next s b < 8
unfolding direct_next
direct_bound s b hs hb = ltb→lt (direct_next s b) 8 (grid (λ s b. ltb (direct_next s b) 8) 8 256 tt s b hs hb)

pub pair_bound : (s b : ℕ) → s < 28 → b < 256 → pair_next s b < 28
unfolding pair_next
pair_bound s b hs hb = ltb→lt (pair_next s b) 28 (grid (λ s b. ltb (pair_next s b) 28) 28 256 tt s b hs hb)
