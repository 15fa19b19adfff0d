-- The program's commands as clap knows them, and what it finds in the words of a call.
use Rattle.std.specs.Prelude.{true, List, [], ◌∷◌, Option, Some, None, unwrap_or, codes}
use Rattle.clap.specs.Words.{App, Row, Rule, Text, all_of, new_app, new_rule, with_rule, with_subcommand}
use Rattle.clap.specs.Simple.{on_top}
use Rattle.clap.specs.declared.builder.action.ArgAction.TheVariants.{Append}
use Rattle.clap.specs.declared.builder.value_parser.Reading.TheVariants as reading
use Rattle.clap.specs.declared.parser.matches.ValueSource.TheVariants.{CommandLine}

-- the rule that gathers a command's arguments in one list
abbrev pub arguments_rule : Rule
arguments_rule = record (new_rule (codes "arguments")) { action = Some Append }

-- a command of this name, with that rule alone
abbrev pub command_app : Text → App
command_app name = with_rule (new_app name) arguments_rule

-- the program without its commands: its own name isn't among its words, and no help is offered
abbrev pub bare_app : App
bare_app = on_top (λ s. record s {
  no_binary_name = true;
  disable_help_flag = true;
  disable_help_subcommand = true;
}) (new_app (codes "ahi"))

-- the program with its commands
abbrev pub program_app : App
program_app = with_subcommand (with_subcommand (with_subcommand bare_app
    (command_app (codes "run")).top) (command_app (codes "page")).top) (command_app (codes "gen")).top

-- what clap holds of a command's arguments: one row, as they were written, where there are any
abbrev pub argument_rows : List Text → List Row
argument_rows [] = []
argument_rows (word ∷ words) = record {
  id = codes "arguments";
  values = word ∷ words;
  count = None;
  source = Some CommandLine;
  reading = reading.AsWritten;
} ∷ []

-- the arguments in what clap holds
abbrev pub arguments_in : List Row → List Text
arguments_in rows = unwrap_or (all_of (codes "arguments") rows) []

-- what clap finds in the words of a call: the command, and the row of its arguments
abbrev pub call_rows : List Text → Option (Text × List Row)
call_rows [] = None
call_rows (command ∷ arguments) = Some (command, argument_rows arguments)
