-- What words ask for.
use Rattle.std.specs.Prelude.{◌≡◌, ℕ, true, cond, ◌&&◌, List, [], ◌∷◌, length, drop, Option, Some, None, slice_get}
use Rattle.std.specs.Option.{unwrap_or}
use Rattle.ann_defs.specs.declared.kinds.Kind.{Kind}
use Rattle.ann_defs.specs.declared.kinds.Kind.TheVariants.{Vamana}
use Rattle.command_options.specs.declared.setting_name.SettingName.{SettingName}
use Rattle.annbuild_words.specs.declared.request.Asked.{Asked}
use Rattle.annbuild_words.specs.declared.request.Asked.TheVariants.{Nothing, Outside, For}
use Rattle.annbuild_words.specs.declared.request.Request.{Request}
use Rattle.command_options.specs.declared.settings.Settings.{Settings}
use Rattle.command_options.specs.declared.verb.Verb.{Verb}
use Rattle.command_options.specs.declared.option_name.OptionName.TheVariants as options
use Rattle.annbuild_words.specs.declared.range.OutOfRange.{OutOfRange}
use Rattle.annbuild_words.specs.Words.{Item, items, files_of}
use Rattle.command_options.specs.Verbs.{verb_in, roles_of}
use Rattle.command_options.specs.Shapes.{is_built}
use Rattle.annbuild_words.specs.Rules.{keeps_rules, setting, first_outside}
use Rattle.command_options.specs.Settings.{kind_of, settings_of, IsInRange}

-- a command with its file names, in the order of the words, and its settings; a name that it doesn't have is empty
pub record Command : Type 0 where
  pub verb : Verb
  pub first : List ℕ
  pub second : List ℕ
  pub third : List ℕ
  pub fourth : List ℕ
  pub settings : Settings

-- no request, the first setting out of its range, or a request
pub data Meaning : Type 0 where
  Nothing' : Meaning
  Outside' : (name : SettingName) (value least greatest : ℕ) → Meaning
  Means : Command → Meaning

-- the command of a request
abbrev pub command_of : Request → Command
command_of r = record { verb = r.verb; first = r.names.first.now; second = r.names.second.now; third = r.names.third.now; fourth = r.names.fourth.now; settings = r.settings }

-- what an answer stands for
abbrev pub seen : Asked → Meaning
seen Nothing = Nothing'
seen (Outside name value least greatest) = Outside' name value least greatest
seen (For request) = Means (command_of request)

-- the names of a command, and those of one that has none
abbrev pub names_of : Command → List (List ℕ)
names_of c = c.first ∷ c.second ∷ c.third ∷ c.fourth ∷ []

abbrev pub no_names : List (List ℕ)
no_names = [] ∷ [] ∷ [] ∷ [] ∷ []

-- the names that the command doesn't have are empty
abbrev pub HasNoMore : Command → Type 0
HasNoMore c = drop (length (roles_of c.verb)) (names_of c) ≡ drop (length (roles_of c.verb)) no_names

-- a command that the program has, with settings that the option table allows
pub record IsAllowed (c : Command) : Type 0 where
  pub built : is_built c.verb c.settings.kind ≡ true
  pub no_more : HasNoMore c
  pub in_range : IsInRange c.verb c.settings

-- what is said of the command, if there is one
abbrev pub OnMeaning : Meaning → (Command → Type 0) → Type 0
OnMeaning (Means command) P = P command
OnMeaning meaning P = Unit {0}

-- a name of the words
abbrev pub file_at : List (List ℕ) → ℕ → List ℕ
file_at files i = unwrap_or (slice_get files i) []

-- a command with these names and settings
abbrev pub named : Verb → List (List ℕ) → Settings → Command
named verb files settings = record { verb = verb; first = file_at files 0; second = file_at files 1; third = file_at files 2; fourth = file_at files 3; settings = settings }

-- a command whose settings are in range, or the first that isn't
abbrev pub checked : Option OutOfRange → Command → Meaning
checked None command = Means command
checked (Some o) command = Outside' o.name o.value o.least o.greatest

-- the meaning of the words after a command, by a kind
unfoldable pub meaning_by : Verb → Kind → List Item → Meaning
meaning_by verb kind words = cond (is_built verb kind && keeps_rules verb kind words) (checked (first_outside verb kind words) (named verb (files_of words) (settings_of (setting verb kind words)))) Nothing'

-- the kind that words say, or the default
unfoldable pub kind_said : Verb → List Item → Kind
kind_said verb words = kind_of (setting verb Vamana words options.Kind)

-- the meaning of the words after a command
abbrev pub meaning_of : Option Verb → List Item → Meaning
meaning_of None words = Nothing'
meaning_of (Some verb) words = meaning_by verb (kind_said verb words) words

-- the meaning of the words after the program's name
abbrev pub request_of : List (List ℕ) → Meaning
request_of [] = Nothing'
request_of (command ∷ words) = meaning_of (verb_in command) (items words)
