-- The words for people.
use Rattle.std.specs.Prelude.{ℕ, List, codes}
use Rattle.script.specs.declared.problems.Problem.{Problem}
use Rattle.script.specs.declared.problems.Problem.TheVariants as problem

-- what a problem is called
abbrev pub explanation : Problem → List ℕ
explanation problem.UnknownCommand = codes "unknown command"
explanation problem.OddDigits = codes "an odd number of hexadecimal digits"
explanation problem.NoHexDigit = codes "a character that is no hexadecimal digit"
explanation problem.NoNumber = codes "not a number"
explanation problem.NumberTooLarge = codes "a number above 4294967295"
explanation problem.TooManyBytes = codes "too long, a module has at most 1048576 bytes"
explanation problem.MissingPath = codes "no path after @"
explanation problem.TooManyWords = codes "too many words"
explanation problem.OutOfMemory = codes "out of memory"
explanation problem.NoFile = codes "the file cannot be read"
explanation problem.NoModule = codes "no module was taken yet"
explanation problem.NoVerdict = codes "no module was judged yet"
explanation problem.TooManyMarks = codes "a marks buffer has at most 1048576 bytes"
explanation problem.NoMemoryKind = codes "a memory is flat or paged"
explanation problem.NoMemory = codes "no memory was made yet"
explanation problem.TooManyShown = codes "at most 65536 bytes are shown"
