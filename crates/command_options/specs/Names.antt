-- What words and lines call files and choices, and the choice that a word names.
use Rattle.std.specs.Prelude.{ℕ, cond, List, [], ◌∷◌, Option, Some, None, codes}
use Rattle.std.specs.Str.{bytes_eq}
use Rattle.ann_defs.specs.declared.kinds.Element.{Element}
use Rattle.ann_defs.specs.declared.kinds.Element.TheVariants.{U8, I8}
use Rattle.ann_defs.specs.declared.kinds.Kind.{Kind}
use Rattle.ann_defs.specs.declared.kinds.Kind.TheVariants.{Vamana, Hnsw, Nnd}
use Rattle.ann_defs.specs.declared.kinds.OrderKind.{OrderKind}
use Rattle.ann_defs.specs.declared.kinds.OrderKind.TheVariants.{File, Seeded}
use Rattle.ann_defs.specs.declared.kinds.StartKind.{StartKind}
use Rattle.ann_defs.specs.declared.kinds.StartKind.TheVariants.{First, Medoid}
use Rattle.ann_defs.specs.declared.kinds.Way.{Way}
use Rattle.ann_defs.specs.declared.kinds.Way.TheVariants.{Serial, Shares, Stealing}
use Rattle.command_options.specs.declared.role.Role.{Role}
use Rattle.command_options.specs.declared.role.Role.TheVariants as roles

abbrev pub role_name : Role → List ℕ
role_name roles.Base = codes "data"
role_name roles.Index = codes "index"
role_name roles.Queries = codes "queries"
role_name roles.Output = codes "output"
role_name roles.Gone = codes "gone"
role_name roles.Fresh = codes "fresh index"
role_name roles.Labels = codes "labels"

abbrev pub kind_name : Kind → List ℕ
kind_name Vamana = codes "vamana"
kind_name Hnsw = codes "hnsw"
kind_name Nnd = codes "nnd"

abbrev pub pool_name : Way → List ℕ
pool_name Serial = codes "serial"
pool_name Shares = codes "rayon"
pool_name Stealing = codes "steal"

abbrev pub order_name : OrderKind → List ℕ
order_name File = codes "file"
order_name Seeded = codes "seeded"

abbrev pub start_name : StartKind → List ℕ
start_name First = codes "first"
start_name Medoid = codes "medoid"

abbrev pub element_name : Element → List ℕ
element_name U8 = codes "u8"
element_name I8 = codes "i8"

-- the first of these choices that has this name
abbrev pub first_named : {A : Type 0} → (A → List ℕ) → List A → List ℕ → Option A
first_named name [] word = None
first_named name (choice ∷ more) word = cond (bytes_eq word (name choice)) (Some choice) (first_named name more word)
