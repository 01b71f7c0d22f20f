use Rattle.std.proofs.Common.{◌+◌, ◌/◌, ◌<◌, ◌≤◌, length, Some, None, vec_items, sym, ap, ◌∙◌, arith}
use Rattle.std.proofs.lemmas.List.{length-set, get_or-set_same}
use Rattle.memory.proofs.Blanks.{zero_octets}
use Rattle.memory.proofs.Tables.{mapped_hold, apart_hold, counted_hold, sound_hold}
use Rattle.memory.proofs.Views.{hold_same, lacks_none}
use Rattle.memory.proofs.paged.Paged.hold.Goals as goal

pub invariant_of-self : goal.invariant_of-self
invariant_of-self c =
    let s = c.args.self.now in
    let xs = vec_items s.frames in
    let none = sym c.frame.ensures ∙ c.in_default.is in
    let p : c.args.page < length s.table = omega (arith, s.fit, s.pages) in
    let l : s.used < length xs = omega (arith, s.within, s.frames.ok.0) in
    let n = length-set xs s.used c.clear.new.frame in
    record {
      fit = s.fit;
      pages = length-set s.table c.args.page (Some s.used) ∙ s.pages;
      few = omega (arith, n, s.few);
      within = omega (arith, n, l);
      counted = ap (λ k. k + 1) s.counted ∙ sym (counted_hold s.table s.used c.args.page p none (s.size / 256) (omega (arith, s.fit)));
      mapped = mapped_hold s.table s.used c.args.page p none s.mapped;
      apart = apart_hold s.table s.used c.args.page p none s.mapped s.apart;
      sound = sound_hold xs c.clear.new.frame c.clear.ensures.length (zero_octets c.clear.new.frame c.clear.ensures.zeros) s.used l s.sound;
    }

pub returns : goal.returns
returns c =
    let s = c.args.self.now in
    let xs = vec_items s.frames in
    let none = sym c.frame.ensures ∙ c.in_default.is in
    let p : c.args.page < s.size / 256 = omega (arith, s.fit) in
    let t : s.size / 256 ≤ length s.table = omega (arith, s.fit, s.pages) in
    let l : s.used < length xs = omega (arith, s.within, s.frames.ok.0) in (
      hold_same s.size s.table xs s.used c.args.page c.clear.new.frame p t none l c.clear.ensures.zeros s.mapped,
      omega (arith, lacks_none s.size s.table xs s.used c.args.page p none),
      get_or-set_same s.table c.args.page (Some s.used) None (omega arith),
    )
