-- The ids that a layer holds, and its rows by their number.
use Rattle.std.specs.Prelude.{ℕ, ◌<◌, Bool, nat_lt, List, [], ◌∷◌, length, slice_index, slice_index_or}
use Rattle.std.specs.List.{range_with_len}
use Rattle.ann_defs.specs.Graph.{has}
use Rattle.graph_rows.specs.Index.{layer_ids}
use Rattle.ann_defs.specs.Ordered.{Ascends}
use Rattle.graph_rows.specs.WellFormed.{IsRowIn}
use Rattle.graph_rows.specs.declared.members.Members.{Members}
use Rattle.graph_rows.specs.declared.members.Members.TheVariants.{Below, Listed}

abbrev pub holds : Members → ℕ → Bool
holds (Below count) id = nat_lt id count
holds (Listed ids) id = has ids.now id

-- all of them, in ascending order
abbrev pub owns : Members → List ℕ
owns (Below count) = range_with_len 0 count
owns (Listed ids) = ids.now

abbrev pub count_in : Members → ℕ
count_in (Below count) = count
count_in (Listed ids) = length ids.now

-- those that are listed ascend
abbrev pub AreAscending : Members → Type 0
AreAscending (Below count) = Unit {0}
AreAscending (Listed ids) = Ascends ids.now

-- each of the first n rows is one of the layer's for its own id
abbrev pub AreRows : (ℕ → Bool) → ℕ → List ℕ → ℕ → List (List ℕ) → Type 0
AreRows held bound own n rows = (k : ℕ) → k < n → IsRowIn held bound (slice_index own k) (slice_index_or rows k [])

-- what the topmost of further layers holds, where the layer below them all holds `below`
abbrev pub held_over : (ℕ → Bool) → List (List (ℕ × List ℕ)) → ℕ → Bool
held_over below [] = below
held_over below (layer ∷ layers) = held_over (λ id. has (layer_ids layer) id) layers

-- how many ids it holds, where the layer below them all holds `count`
abbrev pub count_over : ℕ → List (List (ℕ × List ℕ)) → ℕ
count_over count [] = count
count_over count (layer ∷ layers) = count_over (length layer) layers
