use Rattle.std.proofs.Common.{◌/◌, ◌%◌, ◌<◌, [], length, set, vec_items, refl, ap, ◌∙◌, arith}
use Rattle.std.proofs.lemmas.List.{get_or_read}
use Rattle.memory.specs.Access.{laid}
use Rattle.memory.specs.Data.{parts}
use Rattle.memory.specs.Pages.{paged_meaning}
use Rattle.memory.proofs.Views.{write_same}
use Rattle.memory.proofs.paged.Paged.write.Goals as goal

pub returns : goal.returns
returns c =
    let s = c.args.self.now in
    let xs = vec_items s.frames in
    let f = s.mapped (c.args.at / 256) c.args.frame c.requires.framed in
    let l : c.args.frame < length xs = omega (arith, f, s.within) in
    let frame = get_or_read xs c.args.frame c.index_mut.result.now l c.index_mut.ensures.value [] in
    ap (λ ys. paged_meaning s.size s.table (set xs c.args.frame ys) s.used) (c.lay.ensures.value ∙ ap (λ ys. laid ys (c.args.at % 256) (parts c.args.datum)) frame)
    ∙ write_same s.size s.table (c.args.at / 256) c.args.frame c.requires.framed s.apart (omega (arith, c.requires.inside)) s.fit.2
    xs s.used c.args.at (parts c.args.datum) refl l (s.sound c.args.frame f).0 c.requires.within
