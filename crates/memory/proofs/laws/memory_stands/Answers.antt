use Rattle.memory.proofs.PutLaws.{long_is_four, read_after_put, long_after_put, size_stays, pages_stay, touched_held, pages_kept, held_granted, refused_same, puts_commute, put_valid}
use Rattle.memory.proofs.laws.memory_stands.Goals as goal

pub returns : goal.returns
returns c =
    record {
      four = long_is_four;
      read = read_after_put;
      long = long_after_put;
      size = size_stays;
      pages = pages_stay;
      touched = touched_held;
      kept = pages_kept;
      held = held_granted;
      refused = refused_same;
      commute = puts_commute;
      valid = put_valid;
    }
