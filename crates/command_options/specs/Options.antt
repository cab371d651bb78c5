-- The options and their names.
use Rattle.std.specs.Prelude.{ℕ, Bool, List, [], ◌∷◌, codes, drop}
use Rattle.std.specs.List.{list_any}
use Rattle.std.specs.Str.{bytes_eq}
use Rattle.command_options.specs.declared.option_name.OptionName.{OptionName}
use Rattle.command_options.specs.declared.option_name.OptionName.TheVariants as options

-- an option's name
abbrev pub option_name : OptionName → List ℕ
option_name options.Kind = codes "--kind"
option_name options.Workers = codes "--workers"
option_name options.Pool = codes "--pool"
option_name options.Seed = codes "--seed"
option_name options.Order = codes "--order"
option_name options.Start = codes "--start"
option_name options.Degree = codes "--degree"
option_name options.Beam = codes "--beam"
option_name options.Alpha = codes "--alpha"
option_name options.Cap = codes "--cap"
option_name options.Passes = codes "--passes"
option_name options.Bits = codes "--bits"
option_name options.MaxLevel = codes "--max-level"
option_name options.List = codes "--list"
option_name options.Trees = codes "--trees"
option_name options.Leaf = codes "--leaf"
option_name options.Rounds = codes "--rounds"
option_name options.Floor = codes "--floor"
option_name options.Format = codes "--format"
option_name options.Count = codes "--count"
option_name options.Dim = codes "--dim"
option_name options.Queries = codes "--queries"
option_name options.Search = codes "--search"
option_name options.K = codes "--k"
option_name options.Callers = codes "--callers"
option_name options.Label = codes "--label"
option_name options.Type = codes "--type"

-- the same without the dashes
abbrev pub long_name : OptionName → List ℕ
long_name option = drop 2 (option_name option)

-- all options, in the order in which they are checked
abbrev pub every_option : List OptionName
every_option = options.Kind ∷ options.Workers ∷ options.Pool ∷ options.Seed ∷ options.Order ∷ options.Start ∷ options.Degree ∷ options.Beam ∷ options.Alpha ∷ options.Cap ∷ options.Passes ∷ options.Bits ∷ options.MaxLevel ∷ options.List ∷ options.Trees ∷ options.Leaf ∷ options.Rounds ∷ options.Floor ∷ options.Format ∷ options.Count ∷ options.Dim ∷ options.Queries ∷ options.Search ∷ options.K ∷ options.Callers ∷ options.Label ∷ options.Type ∷ []

-- one of these options has this name
abbrev pub is_named : List ℕ → List OptionName → Bool
is_named name given = list_any (λ o. bytes_eq name (option_name o)) given
