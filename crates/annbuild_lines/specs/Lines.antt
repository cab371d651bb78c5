-- The printed lines.
use Rattle.std.specs.Prelude.{ℕ, List, ◌++◌, codes, decimal}
use Rattle.std.specs.List.{flat_map}
use Rattle.ann_defs.specs.declared.near.Near.{Near}
use Rattle.ann_shelf.specs.declared.slip.Quantity.{Quantity}
use Rattle.ann_shelf.specs.declared.slip.Quantity.TheVariants as quantities
use Rattle.bin_files.specs.declared.fault.PointsRule.{PointsRule}
use Rattle.bin_files.specs.declared.fault.PointsRule.TheVariants as points_rules
use Rattle.graph_files.specs.declared.fault.IndexRule.{IndexRule}
use Rattle.graph_files.specs.declared.fault.IndexRule.TheVariants as index_rules
use Rattle.command_options.specs.Names.{role_name, kind_name}
use Rattle.command_options.specs.declared.setting_name.SettingName.{SettingName}
use Rattle.command_options.specs.declared.setting_name.SettingName.TheVariants as setting_names
use Rattle.annbuild_lines.specs.declared.rules.GoneRule.{GoneRule}
use Rattle.annbuild_lines.specs.declared.rules.GoneRule.TheVariants as gone_rules
use Rattle.annbuild_lines.specs.declared.rules.LabelRule.{LabelRule}
use Rattle.annbuild_lines.specs.declared.rules.LabelRule.TheVariants as label_rules
use Rattle.annbuild_lines.specs.declared.fault.Rule.{Rule}
use Rattle.annbuild_lines.specs.declared.fault.Rule.TheVariants.{Points, Index, Gone, Labels}
use Rattle.annbuild_lines.specs.declared.fault.What.{What}
use Rattle.annbuild_lines.specs.declared.fault.What.TheVariants as whats
use Rattle.annbuild_lines.specs.declared.fault.Fault.{Fault}
use Rattle.annbuild_lines.specs.declared.fault.Fault.TheVariants.{Usage, Setting, Read, Malformed, Unfit, Write, NoMemory, TooLarge}
use Rattle.annbuild_lines.specs.declared.index_lines.BuiltLine.{BuiltLine}
use Rattle.annbuild_lines.specs.declared.batch_line.Moment.{Moment}
use Rattle.annbuild_lines.specs.declared.batch_line.Moment.TheVariants.{During, After}

-- what a line tells of an index
abbrev pub index_told : BuiltLine → List ℕ
index_told t =
    kind_name t.kind ++ (codes " count " ++ decimal t.count) ++ (codes " dim " ++ decimal t.dim) ++ (codes " degree " ++ decimal t.degree)
    ++ (codes " start " ++ decimal t.start) ++ (codes " layers " ++ decimal t.layers) ++ (codes " edges " ++ decimal t.edges)

-- the line of a build
abbrev pub built_text : BuiltLine → List ℕ
built_text t = codes "built " ++ index_told t ++ codes "\n"

-- the line of an index that was checked: the same, and the length of its longest row
abbrev pub checked_text : BuiltLine → (longest : ℕ) → List ℕ
checked_text t longest = codes "ok " ++ index_told t ++ (codes " longest " ++ decimal longest) ++ codes "\n"

-- the line of made points
abbrev pub made_text : (count dim : ℕ) → List ℕ
made_text count dim = codes "made" ++ (codes " count " ++ decimal count) ++ (codes " dim " ++ decimal dim) ++ codes "\n"

-- the line of all answers of a trial: how many queries and answers there are, and the sum of the answers' squared distances
abbrev pub answered_text : (queries answers total : ℕ) → List ℕ
answered_text queries answers total = codes "queries " ++ decimal queries ++ (codes " answers " ++ decimal answers) ++ (codes " total " ++ decimal total) ++ codes "\n"

-- an answer of a query: an id and its squared distance
abbrev pub answer_text : Near → List ℕ
answer_text near = codes " " ++ decimal near.id ++ codes ":" ++ decimal near.dist

-- the line of a query: its number, and its answers from the nearest on
abbrev pub query_text : ℕ → List Near → List ℕ
query_text number answers = decimal number ++ flat_map answer_text answers ++ codes "\n"

-- the word with which the line of an answer beside a build begins
abbrev pub moment_word : Moment → List ℕ
moment_word During = codes "live"
moment_word After = codes "last"

-- the line of an answer beside a build: the query's number, the batch that it is of, and the answers from the nearest on
abbrev pub batch_text : Moment → (number batch : ℕ) → List Near → List ℕ
batch_text moment number batch answers = moment_word moment ++ (codes " " ++ decimal number) ++ (codes " " ++ decimal batch) ++ flat_map answer_text answers ++ codes "\n"

-- the settings, as their options are called
abbrev pub setting_name : SettingName → List ℕ
setting_name setting_names.Kind = codes "kind"
setting_name setting_names.Workers = codes "workers"
setting_name setting_names.Degree = codes "degree"
setting_name setting_names.Beam = codes "beam"
setting_name setting_names.AlphaDen = codes "alpha-den"
setting_name setting_names.AlphaNum = codes "alpha-num"
setting_name setting_names.Cap = codes "cap"
setting_name setting_names.Passes = codes "passes"
setting_name setting_names.Bits = codes "bits"
setting_name setting_names.MaxLevel = codes "max-level"
setting_name setting_names.List = codes "list"
setting_name setting_names.Trees = codes "trees"
setting_name setting_names.Leaf = codes "leaf"
setting_name setting_names.RoundCount = codes "rounds"
setting_name setting_names.Format = codes "format"
setting_name setting_names.Count = codes "count"
setting_name setting_names.Dim = codes "dim"
setting_name setting_names.QueryCount = codes "queries"
setting_name setting_names.Search = codes "search"
setting_name setting_names.K = codes "k"
setting_name setting_names.Callers = codes "callers"
setting_name setting_names.Label = codes "label"

-- the rules of the files
abbrev pub points_rule_name : PointsRule → List ℕ
points_rule_name points_rules.ShortHeader = codes "short header"
points_rule_name points_rules.ZeroCount = codes "zero count"
points_rule_name points_rules.ZeroDim = codes "zero dim"
points_rule_name points_rules.ShortBody = codes "short body"
points_rule_name points_rules.Trailing = codes "trailing"

abbrev pub index_rule_name : IndexRule → List ℕ
index_rule_name index_rules.ShortHeader = codes "short header"
index_rule_name index_rules.Magic = codes "magic"
index_rule_name index_rules.Version = codes "version"
index_rule_name index_rules.Kind = codes "kind"
index_rule_name index_rules.ZeroCount = codes "zero count"
index_rule_name index_rules.ZeroDim = codes "zero dim"
index_rule_name index_rules.Degree = codes "degree"
index_rule_name index_rules.Start = codes "start"
index_rule_name index_rules.Layers = codes "layers"
index_rule_name index_rules.LayerIds = codes "layer ids"
index_rule_name index_rules.IdRange = codes "id range"
index_rule_name index_rules.SelfEdge = codes "self edge"
index_rule_name index_rules.DoubleEdge = codes "double edge"
index_rule_name index_rules.Short = codes "short"
index_rule_name index_rules.Trailing = codes "trailing"
index_rule_name index_rules.Stamp = codes "stamp"

abbrev pub gone_rule_name : GoneRule → List ℕ
gone_rule_name gone_rules.ShortHeader = codes "short header"
gone_rule_name gone_rules.AllGone = codes "all gone"
gone_rule_name gone_rules.Order = codes "order"
gone_rule_name gone_rules.IdRange = codes "id range"
gone_rule_name gone_rules.Short = codes "short"
gone_rule_name gone_rules.Trailing = codes "trailing"

abbrev pub label_rule_name : LabelRule → List ℕ
label_rule_name label_rules.ShortHeader = codes "short header"
label_rule_name label_rules.ZeroCount = codes "zero count"
label_rule_name label_rules.Short = codes "short"
label_rule_name label_rules.ZeroMask = codes "zero mask"
label_rule_name label_rules.Trailing = codes "trailing"

abbrev pub rule_name : Rule → List ℕ
rule_name (Points rule) = points_rule_name rule
rule_name (Index rule) = index_rule_name rule
rule_name (Gone rule) = gone_rule_name rule
rule_name (Labels rule) = label_rule_name rule

-- what two files differ in
abbrev pub what_name : What → List ℕ
what_name whats.Count = codes "count"
what_name whats.Dim = codes "dim"
what_name whats.Element = codes "element"
what_name whats.Digest = codes "digest"
what_name whats.Kind = codes "kind"

-- where the wanted number is from: the file of points, or the command itself
abbrev pub wanted_from : What → List ℕ
wanted_from whats.Kind = codes " wanted"
wanted_from what = codes " in data"

-- what a limit speaks of
abbrev pub quantity_name : Quantity → List ℕ
quantity_name quantities.Count = codes "count"
quantity_name quantities.Dim = codes "dim"
quantity_name quantities.Degree = codes "degree"
quantity_name quantities.Cells = codes "cells"
quantity_name quantities.Words = codes "words"
quantity_name quantities.Answers = codes "answers"

-- what a fault tells, behind the program's name
abbrev pub told : Fault → List ℕ
told Usage = codes "the words name no request"
told (Setting name value least greatest) = codes "setting " ++ setting_name name ++ codes " is " ++ decimal value ++ codes ", allowed " ++ decimal least ++ codes " to " ++ decimal greatest
told (Read file) = codes "cannot read " ++ role_name file
told (Malformed file place rule) = role_name file ++ codes " is malformed at byte " ++ decimal place ++ codes ": " ++ rule_name rule
told (Unfit file what found wanted) = what_name what ++ codes " differs: " ++ decimal found ++ codes " in " ++ role_name file ++ codes ", " ++ decimal wanted ++ wanted_from what
told (Write file) = codes "cannot write " ++ role_name file
told NoMemory = codes "out of memory"
told (TooLarge name value limit) = quantity_name name ++ codes " is " ++ decimal value ++ codes ", limit " ++ decimal limit

-- the line of a fault
abbrev pub fault_text : Fault → List ℕ
fault_text fault = codes "annbuild: " ++ told fault ++ codes "\n"
