use Rattle.std.proofs.Common.{vec_items, arith}
use Rattle.memory.proofs.Views.{fresh_same}
use Rattle.memory.proofs.paged.Paged.fresh.Goals as goal

pub returns : goal.returns
returns c =
    fresh_same c.args.size c.no_frames.result (vec_items c.args.frames) (omega (arith, c.requires.fit, c.no_frames.ensures.pages)) c.no_frames.ensures.none
