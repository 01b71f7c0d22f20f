use Rattle.std.proofs.Common.{◌≡◌, [], vec_items}
use Rattle.std.specs.Slice.Iter.{chunks_rest, chunks_size}
use Rattle.script.specs.Groups.{pairs_of}
use Rattle.script.proofs.groups.pairs.Given as goal

abbrev pub invariant-loop-pair : goal.invariant-loop-pair
invariant-loop-pair l =
    record {
      two : chunks_size l.pair-iterator ≡ 2;
      left : pairs_of (vec_items l.bytes) (chunks_rest l.pair-iterator) ≡ pairs_of [] l.digits;
    }
