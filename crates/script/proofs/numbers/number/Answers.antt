use Rattle.std.proofs.Common.{◌≡◌, rules}
use Rattle.script.specs.Numbers.{number_of}
use Rattle.script.proofs.Spellings.{reads}
use Rattle.script.proofs.numbers.number.Goals as goal

pub returns-in-Some : goal.returns-in-Some
returns-in-Some c =
    let value : c.numeral.result ≡ number_of c.args.text.now = search rules in
    let laws = reads c.args.text.now c.numeral.result value in
    record { value = value; decimal = laws.0; hexadecimal = laws.1 }

pub returns-in-None : goal.returns-in-None
returns-in-None c =
    let value : c.numeral-in-None.result ≡ number_of c.args.text.now = search rules in
    let laws = reads c.args.text.now c.numeral-in-None.result value in
    record { value = value; decimal = laws.0; hexadecimal = laws.1 }
