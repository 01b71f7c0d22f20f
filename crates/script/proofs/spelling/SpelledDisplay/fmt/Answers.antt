use Rattle.std.proofs.Common.{ℕ, ◌/◌, ◌%◌, List, [], ◌∷◌, get_or, take, refl, ap, ◌∙◌, arith}
use lib.Utf8.{encode}
use Rattle.std.proofs.Output.{has_written_append, has_written_of_eq}
use Rattle.script.specs.Spelled.{character, spelling}
use Rattle.script.proofs.Written.{digit_byte, spelling_more}
use Rattle.script.proofs.spelling.SpelledDisplay.fmt.Goals as goal

-- one byte more: its high digit, then its low one
pub loop-byte-preserved : goal.loop-byte-preserved
loop-byte-preserved g c plain =
    let bs : List ℕ = c.args.self.now.0.now in
    let i : ℕ = c.loop-byte.byte-index in
    let n : ℕ = get_or bs i 0 in
    let before = c.loop-byte.invariant plain in
    let high = c.in_ok-write_char.ensures.writes before.plain refl in
    let low = c.in_ok-write_char-2.ensures.writes high.plain refl in
    let a = has_written_of_eq g.W.Write.write_str_gives c.loop-byte.f (encode c.digit.result) (character (n / 16) ∷ []) c.write_char.new.self (ap encode c.digit.ensures ∙ digit_byte (n / 16) (omega arith)) high in
    let b = has_written_of_eq g.W.Write.write_str_gives c.write_char.new.self (encode c.digit-in-loop-byte.result) (character (n % 16) ∷ []) c.write_char-in-loop-byte.new.self (ap encode c.digit-in-loop-byte.ensures ∙ digit_byte (n % 16) (omega arith)) low in
    let two = has_written_append g.W.Write.write_str_gives c.loop-byte.f (character (n / 16) ∷ []) c.write_char.new.self (character (n % 16) ∷ []) c.write_char-in-loop-byte.new.self a b in
    has_written_of_eq g.W.Write.write_str_gives c.args.f.now _ _ c.write_char-in-loop-byte.new.self (spelling_more bs i (omega arith))
    (has_written_append g.W.Write.write_str_gives c.args.f.now (spelling (take i bs)) c.loop-byte.f (character (n / 16) ∷ (character (n % 16) ∷ [])) c.write_char-in-loop-byte.new.self before two)
