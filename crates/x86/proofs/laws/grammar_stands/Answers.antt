use Rattle.x86.proofs.Unambiguous as grammar
use Rattle.x86.proofs.laws.grammar_stands.Goals as goal

pub returns : goal.returns
returns c =
    record { unambiguous = grammar.unambiguous; classes = grammar.classes_apart; short = grammar.short; halves = grammar.halves }
