-- The command line that clap is told of, and the command that its matches stand for.
use Rattle.std.specs.Prelude.{ℕ, true, cond, List, [], ◌∷◌, Option, Some, None, codes, slice_get}
use Rattle.std.specs.Option.{unwrap_or, option_map, option_map_or}
use Rattle.clap.specs.Words.{App, Row, Rule, Text, first_of, new_app, new_rule, with_rule, with_subcommand}
use Rattle.ann_defs.specs.declared.kinds.Kind.{Kind}
use Rattle.ann_defs.specs.declared.kinds.Kind.TheVariants.{Vamana}
use Rattle.command_options.specs.declared.verb.Verb.{Verb}
use Rattle.command_options.specs.declared.role.Role.{Role}
use Rattle.command_options.specs.declared.role.Role.TheVariants.{Base, Index, Queries, Output, Gone, Fresh, Labels}
use Rattle.command_options.specs.declared.option_name.OptionName.{OptionName}
use Rattle.command_options.specs.declared.option_name.OptionName.TheVariants as options
use Rattle.command_options.specs.declared.value.Value.{Value}
use Rattle.annbuild_words.specs.Asked.{Command}
use Rattle.command_options.specs.Forms.{option_form}
use Rattle.annbuild_words.specs.ValueTexts.{value_or_default}
use Rattle.command_options.specs.Options.{long_name, every_option}
use Rattle.command_options.specs.Settings.{settings_of, kind_of}
use Rattle.command_options.specs.Verbs.{verb_name, verb_in, every_verb, roles_of}
use Rattle.command_options.specs.Shapes.{has_option_of_any}

-- an option
abbrev pub option_rule : OptionName → Rule
option_rule option = record (new_rule (long_name option)) { long = Some (long_name option) }

-- a command with an option, if it has the option for some kind of index
unfoldable pub with_option : Verb → App → OptionName → App
with_option verb app option = cond (has_option_of_any verb option) (with_rule app (option_rule option)) app

-- the same with these options
abbrev pub with_options : Verb → App → List OptionName → App
with_options verb app [] = app
with_options verb app (o ∷ options) = with_options verb (with_option verb app o) options

-- what clap calls a file: no option is called so
abbrev pub file_id : Role → Text
file_id Base = codes "DATA"
file_id Index = codes "INDEX"
file_id Queries = codes "QUERIES"
file_id Output = codes "OUT"
file_id Gone = codes "GONE"
file_id Fresh = codes "OUTPUT"
file_id Labels = codes "LABELS"

-- a command with more file names
abbrev pub with_files : App → List Role → App
with_files app [] = app
with_files app (role ∷ roles) = with_files (with_rule app (new_rule (file_id role))) roles

-- a command of the program
unfoldable pub command_app : Verb → App
command_app verb = with_files (with_options verb (new_app (verb_name verb)) every_option) (roles_of verb)

-- the program without commands: its words don't begin with its name, and it has no help and no version
abbrev pub bare_program : App
bare_program = let app = new_app (codes "annbuild") in record app {
  top = record app.top { no_binary_name = true; disable_help_flag = true; disable_help_subcommand = true; disable_version_flag = true };
}

-- the same with these commands
abbrev pub with_commands : App → List Verb → App
with_commands app [] = app
with_commands app (verb ∷ verbs) = with_commands (with_subcommand app (command_app verb).top) verbs

unfoldable pub program : App
program = with_commands bare_program every_verb

-- the value of a setting, by the matches of a command
abbrev pub setting_in : Verb → Kind → List Row → OptionName → Value
setting_in verb kind rows option = value_or_default (option_form verb kind option) (first_of (long_name option) rows)

-- the file name of a number, or the empty one
abbrev pub file_in : Verb → List Row → ℕ → Text
file_in verb rows i = option_map_or (λ role. unwrap_or (first_of (file_id role) rows) []) (slice_get (roles_of verb) i) []

-- the kind that they say, or the default
abbrev pub kind_in_rows : Verb → List Row → Kind
kind_in_rows verb rows = kind_of (setting_in verb Vamana rows options.Kind)

-- the command that the matches of a command stand for
abbrev pub command_by : Verb → List Row → Command
command_by verb rows = record {
  verb = verb;
  first = file_in verb rows 0;
  second = file_in verb rows 1;
  third = file_in verb rows 2;
  fourth = file_in verb rows 3;
  settings = settings_of (setting_in verb (kind_in_rows verb rows) rows);
}

abbrev pub command_in : Option (Text × List Row) → Option Command
command_in None = None
command_in (Some p) = option_map (λ verb. command_by verb p.1) (verb_in p.0)
