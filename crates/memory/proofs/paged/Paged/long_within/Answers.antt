use Rattle.std.proofs.Common.{◌/◌, ◌%◌, [], Some, None, vec_items, sym, ap, ◌∙◌, arith}
use Rattle.std.proofs.lemmas.List.{get_or_read}
use Rattle.memory.specs.Data.{long_at}
use Rattle.memory.proofs.Views.{long_within}
use Rattle.memory.proofs.paged.Paged.long_within.Goals as goal

pub returns-in-Some : goal.returns-in-Some
returns-in-Some c =
    let s = c.args.self.now in
    let at = sym c.in-Some.ensures in
    let f = s.mapped (c.args.at / 256) c.in-Some.frame at in
    let frame = get_or_read (vec_items s.frames) c.in-Some.frame c.index.result.now (omega (arith, f, s.within)) c.index.ensures [] in
    c.long.ensures
    ∙ (ap (λ xs. long_at xs (c.args.at % 256)) frame
    ∙ sym (long_within s.size s.table (vec_items s.frames) c.args.at (Some c.in-Some.frame) c.requires.inside c.requires.within at))

pub returns-in-None : goal.returns-in-None
returns-in-None c =
    let s = c.args.self.now in
    sym (long_within s.size s.table (vec_items s.frames) c.args.at None c.requires.inside c.requires.within (sym c.frame.ensures ∙ c.in-None.is))
