-- The command line as `clap` has it, and the command that a parse of it spells.
use Rattle.std.specs.Prelude.{ℕ, List, Bool, true, Option, Some, None, codes, if◌then◌else◌}
use Rattle.clap.specs.Words.{App, Rule, new_app, new_rule, with_rule}
use Rattle.clap.specs.declared.builder.ArgAction.TheVariants.{SetTrue}
use Rattle.command_words.specs.Words.{bare_command, command_with_four, command_with_one, command_with_three, command_with_two}
use Rattle.command_words.specs.declared.commands.Command.{Command}

-- the program's own name is no word, and there is no help and no version
abbrev pub bare : App → App
bare a = record a { top = record a.top { no_binary_name = true; disable_help_flag = true; disable_version_flag = true } }

-- the flag `--json`
abbrev pub json_rule : Rule
json_rule = record (new_rule (codes "json")) { long = Some (codes "json"); action = Some SetTrue }

-- the flag `--faults`
abbrev pub faults_rule : Rule
faults_rule = record (new_rule (codes "faults")) { long = Some (codes "faults"); action = Some SetTrue }

-- up to five words
abbrev pub five_words : App
five_words = with_rule (with_rule (with_rule (with_rule (with_rule (bare (new_app (codes "fronthaul")))
    (new_rule (codes "word"))) (new_rule (codes "first"))) (new_rule (codes "second"))) (new_rule (codes "third"))) (new_rule (codes "fourth"))

-- these, and the flags
abbrev pub program : App
program = with_rule (with_rule five_words json_rule) faults_rule

-- the flags that were found
pub record Flags : Type 0 where
  pub json : Bool
  pub faults : Bool

-- the words that were found, those that are there first
pub record Given : Type 0 where
  pub word : Option (List ℕ)
  pub first : Option (List ℕ)
  pub second : Option (List ℕ)
  pub third : Option (List ℕ)
  pub fourth : Option (List ℕ)

-- the command that words without a flag spell
abbrev pub spelled_plainly : Option (List ℕ) → Option (List ℕ) → Option (List ℕ) → Option (List ℕ) → Option (List ℕ) → Option Command
spelled_plainly (Some word) None None None None = bare_command word
spelled_plainly (Some word) (Some first) None None None = command_with_one word first
spelled_plainly (Some word) (Some first) (Some second) None None = command_with_two word first second
spelled_plainly (Some word) (Some first) (Some second) (Some third) None = command_with_three word first second third
spelled_plainly (Some word) (Some first) (Some second) (Some third) (Some fourth) = command_with_four word first second third fourth
spelled_plainly word first second third fourth = None

-- the command that one word with a flag spells
abbrev pub spelled_with : List ℕ → Option (List ℕ) → Option (List ℕ) → Option Command
spelled_with flag (Some word) None = command_with_one word flag
spelled_with flag word first = None

-- the command that the flags and up to five words spell
abbrev pub spelled : Flags → Given → Option Command
spelled flags given =
    if flags.json then (if flags.faults then None else spelled_with (codes "--json") given.word given.first)
    else (if flags.faults then spelled_with (codes "--faults") given.word given.first
    else spelled_plainly given.word given.first given.second given.third given.fourth)
