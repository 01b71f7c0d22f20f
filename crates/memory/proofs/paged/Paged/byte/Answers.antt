use Rattle.std.proofs.Common.{◌/◌, ◌%◌, [], get_or, Some, None, vec_items, sym, ap, ◌∙◌, arith}
use Rattle.std.proofs.lemmas.List.{get_or_read}
use Rattle.memory.proofs.Views.{read_at}
use Rattle.memory.proofs.paged.Paged.byte.Goals as goal

pub returns-in-Some : goal.returns-in-Some
returns-in-Some c =
    let s = c.args.self.now in
    let at = sym c.in-Some.ensures in
    let f = s.mapped (c.args.at / 256) c.in-Some.frame at in
    let frame = get_or_read (vec_items s.frames) c.in-Some.frame c.index.result.now (omega (arith, f, s.within)) c.index.ensures [] in
    ap (λ xs. get_or xs (c.args.at % 256) 0) frame ∙ sym (read_at s.size s.table (vec_items s.frames) c.args.at (Some c.in-Some.frame) c.requires at)

pub returns-in-None : goal.returns-in-None
returns-in-None c =
    let s = c.args.self.now in
    sym (read_at s.size s.table (vec_items s.frames) c.args.at None c.requires (sym c.frame.ensures ∙ c.in-None.is))
