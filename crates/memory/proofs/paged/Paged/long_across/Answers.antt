use Rattle.std.proofs.Common.{◌≡◌, ◌+◌, ◌-◌, ◌*◌, ◌/◌, ◌%◌, ◌^◌, vec_items, ap, ◌∙◌, arith}
use lib.Bits.{bit_or}
use Rattle.memory.specs.Data.{long_at}
use Rattle.memory.specs.PagedView.{paged_view}
use Rattle.memory.proofs.Halves.{across}
use Rattle.memory.specs.ValidLemmas.{paged_valid}
use Rattle.memory.proofs.paged.Paged.long_across.Goals as goal

pub returns : goal.returns
returns c =
    let s = c.args.self.now in
    let a = c.args.at in
    let v = paged_valid s.size s.table (vec_items s.frames) s.used s.fit s.pages s.mapped s.sound in
    let whole : a - a % 4 + a % 4 ≡ a = omega arith in
    ap (λ l. bit_or (l / 2 ^ (8 * (a % 4))) (c.long_within-high.result * 2 ^ (32 - 8 * (a % 4)) % 2 ^ 32)) c.long_within-low.ensures
    ∙ (ap (λ h. bit_or (long_at (paged_view s).bytes (a - a % 4) / 2 ^ (8 * (a % 4))) (h * 2 ^ (32 - 8 * (a % 4)) % 2 ^ 32)) c.long_within-high.ensures
    ∙ (across (paged_view s).bytes (a - a % 4) v.octets (a % 4) (omega (arith, c.requires.across)) (omega arith) ∙ ap (long_at (paged_view s).bytes) whole))
