-- The commands: the name of each, and the files that its words name.
use Rattle.std.specs.Prelude.{ℕ, List, [], ◌∷◌, Option, codes}
use Rattle.command_options.specs.declared.verb.Verb.{Verb}
use Rattle.command_options.specs.declared.verb.Verb.TheVariants as verbs
use Rattle.command_options.specs.declared.role.Role.{Role}
use Rattle.command_options.specs.declared.role.Role.TheVariants as roles
use Rattle.command_options.specs.Names.{first_named}

-- a command's name
abbrev pub verb_name : Verb → List ℕ
verb_name verbs.Build = codes "build"
verb_name verbs.Query = codes "query"
verb_name verbs.Check = codes "check"
verb_name verbs.Make = codes "make"
verb_name verbs.Trial = codes "trial"
verb_name verbs.Live = codes "live"
verb_name verbs.Exact = codes "exact"
verb_name verbs.Recall = codes "recall"
verb_name verbs.Forget = codes "forget"
verb_name verbs.Without = codes "without"
verb_name verbs.Label = codes "label"
verb_name verbs.Find = codes "find"

-- all commands
abbrev pub every_verb : List Verb
every_verb = verbs.Build ∷ verbs.Query ∷ verbs.Check ∷ verbs.Make ∷ verbs.Trial ∷ verbs.Live ∷ verbs.Exact ∷ verbs.Recall ∷ verbs.Forget ∷ verbs.Without ∷ verbs.Label ∷ verbs.Find ∷ []

-- the command that a word names
abbrev pub verb_in : List ℕ → Option Verb
verb_in word = first_named verb_name every_verb word

-- the files that a command's words name, in order
abbrev pub roles_of : Verb → List Role
roles_of verbs.Build = roles.Base ∷ roles.Index ∷ []
roles_of verbs.Query = roles.Base ∷ roles.Index ∷ roles.Queries ∷ []
roles_of verbs.Check = roles.Base ∷ roles.Index ∷ []
roles_of verbs.Make = roles.Base ∷ []
roles_of verbs.Trial = []
roles_of verbs.Live = roles.Base ∷ roles.Index ∷ roles.Queries ∷ []
roles_of verbs.Exact = roles.Base ∷ roles.Queries ∷ []
roles_of verbs.Recall = roles.Base ∷ roles.Index ∷ roles.Queries ∷ []
roles_of verbs.Forget = roles.Base ∷ roles.Index ∷ roles.Gone ∷ roles.Fresh ∷ []
roles_of verbs.Without = roles.Base ∷ roles.Index ∷ roles.Gone ∷ roles.Queries ∷ []
roles_of verbs.Label = roles.Base ∷ roles.Labels ∷ roles.Index ∷ []
roles_of verbs.Find = roles.Base ∷ roles.Labels ∷ roles.Index ∷ roles.Queries ∷ []
