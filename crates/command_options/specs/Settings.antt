-- The settings of a command, from the values of the options and back.
use Rattle.std.specs.Prelude.{◌≡◌, ℕ, ◌≤◌, cond, min, IfSome, Option, Some, None}
use Rattle.ann_defs.specs.declared.kinds.Element.{Element}
use Rattle.ann_defs.specs.declared.kinds.Element.TheVariants.{U8}
use Rattle.ann_defs.specs.declared.kinds.Kind.{Kind}
use Rattle.ann_defs.specs.declared.kinds.Kind.TheVariants.{Vamana, Hnsw, Nnd}
use Rattle.ann_defs.specs.declared.kinds.OrderKind.{OrderKind}
use Rattle.ann_defs.specs.declared.kinds.OrderKind.TheVariants.{Seeded}
use Rattle.ann_defs.specs.declared.kinds.StartKind.{StartKind}
use Rattle.ann_defs.specs.declared.kinds.StartKind.TheVariants.{Medoid}
use Rattle.ann_defs.specs.declared.kinds.Way.{Way}
use Rattle.ann_defs.specs.declared.kinds.Way.TheVariants.{Stealing}
use Rattle.ann_defs.specs.declared.limits.TheConstants.{MAX_BEAM, MAX_CALLERS, MAX_DEGREE, MAX_DIM, MAX_POINTS, MAX_WORKERS}
use Rattle.command_options.specs.declared.settings.Settings.{Settings}
use Rattle.command_options.specs.declared.verb.Verb.{Verb}
use Rattle.command_options.specs.declared.option_name.OptionName.{OptionName}
use Rattle.command_options.specs.declared.option_name.OptionName.TheVariants as options
use Rattle.command_options.specs.declared.value.Value.{Value}
use Rattle.command_options.specs.declared.value.Value.TheVariants.{ByRule, Number, Fraction, KindIs, PoolIs, OrderIs, StartIs, ElementIs}
use Rattle.command_options.specs.Shapes.{has_option, shape_kind, is_exact, is_live}
use Rattle.command_options.specs.Forms.{option_form, default_value, greatest_degree}

-- the number of a value, or another where it has none
abbrev pub number_or : ℕ → Value → ℕ
number_or other (Number n) = n
number_or other value = other

-- the number that stands for a kind of index
abbrev pub kind_code : Kind → ℕ
kind_code Vamana = 1
kind_code Hnsw = 2
kind_code Nnd = 3

-- values as the fields of settings
abbrev pub numerator : Value → ℕ
numerator (Fraction num den) = num
numerator value = 12

abbrev pub denominator : Value → ℕ
denominator (Fraction num den) = den
denominator value = 10

abbrev pub some_number : Value → Option ℕ
some_number (Number n) = Some n
some_number value = None

abbrev pub kind_of : Value → Kind
kind_of (KindIs kind) = kind
kind_of value = Vamana

abbrev pub pool_of : Value → Way
pool_of (PoolIs way) = way
pool_of value = Stealing

abbrev pub order_of : Value → OrderKind
order_of (OrderIs kind) = kind
order_of value = Seeded

abbrev pub start_of : Value → StartKind
start_of (StartIs kind) = kind
start_of value = Medoid

abbrev pub element_of : Value → Element
element_of (ElementIs element) = element
element_of value = U8

-- the settings of these values: where --k isn't set, it is 10, or --search where that is less
abbrev pub settings_of : (OptionName → Value) → Settings
settings_of v = record {
  kind = kind_of (v options.Kind);
  workers = number_or 0 (v options.Workers);
  pool = pool_of (v options.Pool);
  seed = number_or 0 (v options.Seed);
  order = order_of (v options.Order);
  start = start_of (v options.Start);
  degree = number_or 0 (v options.Degree);
  beam = number_or 0 (v options.Beam);
  num = numerator (v options.Alpha);
  den = denominator (v options.Alpha);
  cap = some_number (v options.Cap);
  passes = number_or 0 (v options.Passes);
  bits = number_or 0 (v options.Bits);
  max_level = number_or 0 (v options.MaxLevel);
  list = number_or 0 (v options.List);
  trees = number_or 0 (v options.Trees);
  leaf = number_or 0 (v options.Leaf);
  rounds = number_or 0 (v options.Rounds);
  floor = number_or 0 (v options.Floor);
  format = number_or 0 (v options.Format);
  count = number_or 0 (v options.Count);
  dim = number_or 0 (v options.Dim);
  queries = number_or 0 (v options.Queries);
  search = number_or 0 (v options.Search);
  k = number_or (min 10 (number_or 0 (v options.Search))) (v options.K);
  callers = number_or 0 (v options.Callers);
  label = number_or 0 (v options.Label);
  element = element_of (v options.Type);
}

-- a number, if there is one
abbrev pub number_or_rule : Option ℕ → Value
number_or_rule None = ByRule
number_or_rule (Some n) = Number n

-- the values of settings
abbrev pub values_of : Settings → OptionName → Value
values_of s options.Kind = KindIs s.kind
values_of s options.Workers = Number s.workers
values_of s options.Pool = PoolIs s.pool
values_of s options.Seed = Number s.seed
values_of s options.Order = OrderIs s.order
values_of s options.Start = StartIs s.start
values_of s options.Degree = Number s.degree
values_of s options.Beam = Number s.beam
values_of s options.Alpha = Fraction s.num s.den
values_of s options.Cap = number_or_rule s.cap
values_of s options.Passes = Number s.passes
values_of s options.Bits = Number s.bits
values_of s options.MaxLevel = Number s.max_level
values_of s options.List = Number s.list
values_of s options.Trees = Number s.trees
values_of s options.Leaf = Number s.leaf
values_of s options.Rounds = Number s.rounds
values_of s options.Floor = Number s.floor
values_of s options.Format = Number s.format
values_of s options.Count = Number s.count
values_of s options.Dim = Number s.dim
values_of s options.Queries = Number s.queries
values_of s options.Search = Number s.search
values_of s options.K = Number s.k
values_of s options.Callers = Number s.callers
values_of s options.Label = Number s.label
values_of s options.Type = ElementIs s.element

-- values with the default of each option that the command doesn't have
abbrev pub kept : Verb → Kind → (OptionName → Value) → OptionName → Value
kept verb kind v option = cond (has_option verb kind option) (v option) (default_value (option_form verb kind option))

-- the most answers of a query
abbrev pub most_k : Verb → ℕ → ℕ
most_k verb search = cond (is_exact verb) MAX_BEAM search

-- settings that a build of a kind of index may have
pub record AreForKind (kind : Kind) (s : Settings) : Type 0 where
  pub some_worker : 1 ≤ s.workers
  pub workers : s.workers ≤ MAX_WORKERS
  pub some_degree : 1 ≤ s.degree
  pub degree : s.degree ≤ MAX_DEGREE
  pub bound : s.degree ≤ greatest_degree kind
  pub some_beam : 1 ≤ s.beam
  pub beam : s.beam ≤ MAX_BEAM
  pub some_den : 1 ≤ s.den
  pub ordered : s.den ≤ s.num
  pub num : s.num ≤ 1000
  pub cap : IfSome s.cap (λ cap. (1 ≤ cap) × (cap ≤ MAX_POINTS))
  pub some_pass : 1 ≤ s.passes
  pub passes : s.passes ≤ 2
  pub some_bit : 1 ≤ s.bits
  pub bits : s.bits ≤ 8
  pub max_level : s.max_level ≤ 15
  pub some_entry : 1 ≤ s.list
  pub list : s.list ≤ 128
  pub some_tree : 1 ≤ s.trees
  pub trees : s.trees ≤ 64
  pub two_in_a_leaf : 2 ≤ s.leaf
  pub leaf : s.leaf ≤ 1024
  pub rounds : s.rounds ≤ 64
  pub some_format : 1 ≤ s.format
  pub format : s.format ≤ 2

-- settings that the option table allows
pub record IsInRange (verb : Verb) (s : Settings) : Type 0 where
  pub kind : kind_code s.kind ≤ cond (is_live verb) 1 3
  pub build : AreForKind (shape_kind verb s.kind) s
  pub some_point : 1 ≤ s.count
  pub count : s.count ≤ MAX_POINTS
  pub some_column : 1 ≤ s.dim
  pub dim : s.dim ≤ MAX_DIM
  pub some_query : 1 ≤ s.queries
  pub queries : s.queries ≤ 4096
  pub some_search : 1 ≤ s.search
  pub search : s.search ≤ MAX_BEAM
  pub some_k : 1 ≤ s.k
  pub k : s.k ≤ most_k verb s.search
  pub some_caller : 1 ≤ s.callers
  pub callers : s.callers ≤ MAX_CALLERS
  pub label : s.label ≤ 63
  -- what the command doesn't have is its default
  pub defaults : settings_of (kept verb s.kind (values_of s)) ≡ s
