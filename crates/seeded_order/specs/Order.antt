-- The order in which points are inserted.
use Rattle.std.specs.Prelude.{ℕ, List, ◌∷◌, length}
use Rattle.std.specs.List.{range_with_len}
use Rattle.std.specs.declared.cmp.Ordering.{Ordering}
use Rattle.std.specs.Ordering.{nat_cmp, ordering_then}
use Rattle.ann_defs.specs.declared.kinds.OrderKind.{OrderKind}
use Rattle.ann_defs.specs.declared.kinds.OrderKind.TheVariants.{File, Seeded}
use Rattle.ann_defs.specs.declared.kinds.StartKind.{StartKind}
use Rattle.ann_defs.specs.declared.kinds.StartKind.TheVariants.{First, Medoid}
use Rattle.ann_defs.specs.Ordered.{ordered}
use Rattle.ann_defs.specs.Graph.{without}
use Rattle.seeded_order.specs.Words.{word_of}
use Rattle.seeded_order.specs.Medoid.{medoid_of}

-- all ids, ascending
abbrev pub file_order_of : ℕ → List ℕ
file_order_of n = range_with_len 0 n

-- by the words of stream 1; ties go to the smaller id
abbrev pub word_cmp : ℕ → ℕ → ℕ → Ordering
word_cmp seed a b = ordering_then (nat_cmp (word_of seed 1 a) (word_of seed 1 b)) (nat_cmp a b)

-- all ids by their words
abbrev pub seeded_order_of : ℕ → ℕ → List ℕ
seeded_order_of n seed = ordered (word_cmp seed) (range_with_len 0 n)

-- an id comes first, all others keep their order
abbrev pub to_front : ℕ → List ℕ → List ℕ
to_front id ids = id ∷ without id ids

-- the order before the start is chosen
abbrev pub base_order : OrderKind → ℕ → ℕ → List ℕ
base_order File n seed = file_order_of n
base_order Seeded n seed = seeded_order_of n seed

-- the order of a build that starts at the first of the order, or at the medoid
abbrev pub insertion_order : List (List ℕ) → OrderKind → StartKind → ℕ → List ℕ
insertion_order points order First seed = base_order order (length points) seed
insertion_order points order Medoid seed = to_front (medoid_of points) (base_order order (length points) seed)
