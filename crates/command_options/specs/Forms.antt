-- The option table: the kind of each option's value, its default and its range.
use Rattle.std.specs.Prelude.{ℕ, Bool, cond, Some, None}
use Rattle.ann_defs.specs.declared.kinds.Element.TheVariants.{U8}
use Rattle.ann_defs.specs.declared.kinds.Kind.{Kind}
use Rattle.ann_defs.specs.declared.kinds.Kind.TheVariants.{Vamana, Hnsw}
use Rattle.ann_defs.specs.declared.kinds.OrderKind.TheVariants.{Seeded}
use Rattle.ann_defs.specs.declared.kinds.StartKind.TheVariants.{Medoid}
use Rattle.ann_defs.specs.declared.kinds.Way.TheVariants.{Stealing}
use Rattle.ann_defs.specs.declared.limits.TheConstants.{MAX_BEAM, MAX_CALLERS, MAX_DEGREE, MAX_DIM, MAX_POINTS, MAX_WORKERS}
use Rattle.command_options.specs.declared.setting_name.SettingName.TheVariants as settings
use Rattle.command_options.specs.declared.verb.Verb.{Verb}
use Rattle.command_options.specs.declared.option_name.OptionName.{OptionName}
use Rattle.command_options.specs.declared.option_name.OptionName.TheVariants as options
use Rattle.command_options.specs.declared.form.Range.TheVariants.{Every, Within, ToSearch}
use Rattle.command_options.specs.declared.form.Form.{Form}
use Rattle.command_options.specs.declared.form.Form.TheVariants.{OfNumber, OfFraction, OfKind, OfPool, OfOrder, OfStart, OfElement}
use Rattle.command_options.specs.declared.value.Value.{Value}
use Rattle.command_options.specs.declared.value.Value.TheVariants.{ByRule, Number, Fraction, KindIs, PoolIs, OrderIs, StartIs, ElementIs}
use Rattle.command_options.specs.Shapes.{shape_kind, is_exact, is_live}

-- the length of a row, by the kind of the index
abbrev pub default_degree : Kind → ℕ
default_degree Hnsw = 16
default_degree kind = 64

abbrev pub greatest_degree : Kind → ℕ
greatest_degree Hnsw = 64
greatest_degree kind = MAX_DEGREE

-- the number of answers: at most as many as the search list holds, where there is one
abbrev pub form_of_k : (exact : Bool) → Form
form_of_k exact = cond exact (OfNumber (Some 10) (Within settings.K 1 MAX_BEAM)) (OfNumber None (ToSearch settings.K 1))

-- the table: the kind of an option's value, its default and its range
abbrev pub option_form : Verb → Kind → OptionName → Form
option_form verb kind options.Kind = OfKind Vamana (cond (is_live verb) 1 3)
option_form verb kind options.Workers = OfNumber (Some 4) (Within settings.Workers 1 MAX_WORKERS)
option_form verb kind options.Pool = OfPool Stealing
option_form verb kind options.Seed = OfNumber (Some 0) Every
option_form verb kind options.Order = OfOrder Seeded
option_form verb kind options.Start = OfStart Medoid
option_form verb kind options.Degree = OfNumber (Some (default_degree (shape_kind verb kind))) (Within settings.Degree 1 (greatest_degree (shape_kind verb kind)))
option_form verb kind options.Beam = OfNumber (Some 128) (Within settings.Beam 1 MAX_BEAM)
option_form verb kind options.Alpha = OfFraction 12 10 1000
option_form verb kind options.Cap = OfNumber None (Within settings.Cap 1 MAX_POINTS)
option_form verb kind options.Passes = OfNumber (Some 1) (Within settings.Passes 1 2)
option_form verb kind options.Bits = OfNumber (Some 4) (Within settings.Bits 1 8)
option_form verb kind options.MaxLevel = OfNumber (Some 15) (Within settings.MaxLevel 0 15)
option_form verb kind options.List = OfNumber (Some 40) (Within settings.List 1 128)
option_form verb kind options.Trees = OfNumber (Some 8) (Within settings.Trees 1 64)
option_form verb kind options.Leaf = OfNumber (Some 64) (Within settings.Leaf 2 1024)
option_form verb kind options.Rounds = OfNumber (Some 10) (Within settings.RoundCount 0 64)
option_form verb kind options.Floor = OfNumber (Some 0) Every
option_form verb kind options.Format = OfNumber (Some 1) (Within settings.Format 1 2)
option_form verb kind options.Count = OfNumber (Some 1000) (Within settings.Count 1 MAX_POINTS)
option_form verb kind options.Dim = OfNumber (Some 16) (Within settings.Dim 1 MAX_DIM)
option_form verb kind options.Queries = OfNumber (Some 100) (Within settings.QueryCount 1 4096)
option_form verb kind options.Search = OfNumber (Some 64) (Within settings.Search 1 MAX_BEAM)
option_form verb kind options.K = form_of_k (is_exact verb)
option_form verb kind options.Callers = OfNumber (Some 2) (Within settings.Callers 1 MAX_CALLERS)
option_form verb kind options.Label = OfNumber (Some 0) (Within settings.Label 0 63)
option_form verb kind options.Type = OfElement U8

-- the value where none is set
abbrev pub default_value : Form → Value
default_value (OfNumber None range) = ByRule
default_value (OfNumber (Some n) range) = Number n
default_value (OfFraction num den greatest) = Fraction num den
default_value (OfKind kind greatest) = KindIs kind
default_value (OfPool way) = PoolIs way
default_value (OfOrder kind) = OrderIs kind
default_value (OfStart kind) = StartIs kind
default_value (OfElement element) = ElementIs element
