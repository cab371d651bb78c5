-- The options of each command, and what the program does today.
use Rattle.std.specs.Prelude.{Bool, true, false, ◌&&◌, ◌||◌, List, [], ◌∷◌}
use Rattle.ann_defs.specs.declared.kinds.Kind.{Kind}
use Rattle.ann_defs.specs.declared.kinds.Kind.TheVariants.{Vamana, Hnsw, Nnd}
use Rattle.command_options.specs.declared.verb.Verb.{Verb}
use Rattle.command_options.specs.declared.verb.Verb.TheVariants as verbs
use Rattle.command_options.specs.declared.option_name.OptionName.{OptionName}
use Rattle.command_options.specs.declared.option_name.OptionName.TheVariants as options
use Rattle.command_options.specs.Options.{option_name, is_named}

-- `exact` has --k without a search list
abbrev pub is_exact : Verb → Bool
is_exact verbs.Exact = true
is_exact verb = false

-- `live` builds one kind alone
abbrev pub is_live : Verb → Bool
is_live verbs.Live = true
is_live verb = false

-- these commands build an index
abbrev pub builds : Verb → Bool
builds verbs.Build = true
builds verbs.Trial = true
builds verbs.Live = true
builds verb = false

-- the kind by which a command has its options: the one that --kind says, in the commands that build any kind
abbrev pub shape_kind : Verb → Kind → Kind
shape_kind verbs.Build kind = kind
shape_kind verbs.Trial kind = kind
shape_kind verb kind = Vamana

-- the options of each command that builds
abbrev pub build_options : List OptionName
build_options = options.Kind ∷ options.Workers ∷ options.Pool ∷ options.Seed ∷ []

-- the further options of a build of a kind
abbrev pub options_of_kind : Kind → List OptionName
options_of_kind Vamana = options.Order ∷ options.Start ∷ options.Degree ∷ options.Beam ∷ options.Alpha ∷ options.Cap ∷ options.Passes ∷ []
options_of_kind Hnsw = options.Order ∷ options.Degree ∷ options.Beam ∷ options.Cap ∷ options.Bits ∷ options.MaxLevel ∷ []
options_of_kind Nnd = options.Start ∷ options.Degree ∷ options.Alpha ∷ options.List ∷ options.Trees ∷ options.Leaf ∷ options.Rounds ∷ options.Floor ∷ []

-- the options of a command beside those of a build
abbrev pub own_options : Verb → List OptionName
own_options verbs.Build = options.Format ∷ options.Type ∷ []
own_options verbs.Query = options.Workers ∷ options.Pool ∷ options.Search ∷ options.K ∷ options.Type ∷ []
own_options verbs.Check = options.Type ∷ []
own_options verbs.Make = options.Seed ∷ options.Count ∷ options.Dim ∷ []
own_options verbs.Trial = options.Count ∷ options.Dim ∷ options.Queries ∷ options.Search ∷ options.K ∷ []
own_options verbs.Live = options.Format ∷ options.Search ∷ options.K ∷ options.Callers ∷ options.Type ∷ []
own_options verbs.Exact = options.Workers ∷ options.Pool ∷ options.K ∷ options.Type ∷ []
own_options verbs.Recall = options.Workers ∷ options.Pool ∷ options.Search ∷ options.K ∷ options.Type ∷ []
own_options verbs.Forget = options.Workers ∷ options.Pool ∷ options.Alpha ∷ options.Type ∷ []
own_options verbs.Without = options.Workers ∷ options.Pool ∷ options.Search ∷ options.K ∷ options.Type ∷ []
own_options verbs.Label = options.Workers ∷ options.Pool ∷ options.Seed ∷ options.Order ∷ options.Degree ∷ options.Beam ∷ options.Alpha ∷ options.Cap ∷ options.Type ∷ []
own_options verbs.Find = options.Workers ∷ options.Pool ∷ options.Search ∷ options.K ∷ options.Label ∷ options.Type ∷ []

-- an option is one of these
abbrev pub is_among : OptionName → List OptionName → Bool
is_among option given = is_named (option_name option) given

-- the options of a command and a kind
abbrev pub has_option : Verb → Kind → OptionName → Bool
has_option verb kind option = is_among option (own_options verb) || builds verb && (is_among option build_options || is_among option (options_of_kind (shape_kind verb kind)))

-- the options that a command has for some kind
abbrev pub has_option_of_any : Verb → OptionName → Bool
has_option_of_any verb option = has_option verb Vamana option || has_option verb Hnsw option || has_option verb Nnd option

-- the commands and kinds that the program has today; others mean no request
abbrev pub is_built : Verb → Kind → Bool
is_built verbs.Build kind = true
is_built verbs.Query kind = true
is_built verbs.Check kind = true
is_built verbs.Make kind = true
is_built verbs.Trial kind = true
is_built verbs.Live kind = true
is_built verb kind = false
