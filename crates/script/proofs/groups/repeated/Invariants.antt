use Rattle.std.proofs.Common.{◌≡◌, ◌-◌, ◌++◌, vec_items}
use Rattle.std.specs.List.{repeat}
use Rattle.script.proofs.groups.repeated.Given as goal

abbrev pub invariant-loop-turn : goal.invariant-loop-turn
invariant-loop-turn l = vec_items l.bytes ++ repeat (l.count - l._turn) l.group ≡ vec_items l.initial.bytes ++ repeat l.count l.group
