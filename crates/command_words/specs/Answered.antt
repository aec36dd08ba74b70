-- What a reading of the words answers.
use Rattle.std.specs.Prelude.{◌≡◌, Option, Some, None, IsSome, Result, Ok, Err}
use Rattle.command_words.specs.declared.commands.Command.{Command}
use Rattle.command_words.specs.declared.faults.WordsFault.{WordsFault}
use Rattle.command_words.specs.declared.faults.WordsFault.TheVariants.{BadWords, NoMemory}

-- the command that the words are, `BadWords` exactly where they are none, or want of memory where they are one
abbrev pub AnswersWords : Option Command → Result Command WordsFault → Type 0
AnswersWords wanted (Ok command) = wanted ≡ Some command
AnswersWords wanted (Err BadWords) = wanted ≡ None
AnswersWords wanted (Err NoMemory) = IsSome wanted
