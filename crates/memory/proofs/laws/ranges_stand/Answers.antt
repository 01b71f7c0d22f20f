use Rattle.memory.proofs.Copies.{copy_answer_lem, copy_exact, copy_each}
use Rattle.memory.proofs.WriteLaws.{write_holds, write_size, write_pages_stay, write_pages_kept, write_valid}
use Rattle.memory.proofs.Writes.{read_after_write, write_inside, written_before, copy_after_write}
use Rattle.memory.proofs.laws.ranges_stand.Goals as goal

pub returns : goal.returns
returns c =
    record {
      read = read_after_write;
      inside = write_inside;
      touched = write_holds;
      size = write_size;
      pages = write_pages_stay;
      kept = write_pages_kept;
      valid = write_valid;
      before = written_before;
      answer = copy_answer_lem;
      exact = copy_exact;
      each = copy_each;
      copied = copy_after_write;
    }
