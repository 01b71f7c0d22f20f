use Rattle.std.proofs.Common.{◌≡◌, [], vec_items}
use Rattle.script.specs.Groups.{groups_of}
use Rattle.script.specs.Words.{words_of}
use Rattle.script.proofs.groups.bytes.Given as goal

abbrev pub invariant-loop-word : goal.invariant-loop-word
invariant-loop-word l = groups_of (vec_items l.bytes) (words_of l.word-iterator.left.now) ≡ groups_of [] (words_of l.text)
