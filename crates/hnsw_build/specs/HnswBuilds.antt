-- What a point set, settings and levels decide: the order, the entry point, the batches and the layers after each of
-- them.
use Rattle.std.specs.Prelude.{ℕ, ◌+◌, List, [], map, length, slice_index_or}
use Rattle.std.specs.List.{range_with_len}
use Rattle.ann_defs.specs.BatchInsert.{cap_of, total_of}
use Rattle.graph_rows.specs.Flat.{Flat}
use Rattle.graph_rows.specs.Layers.{Layered}
use Rattle.seeded_order.specs.Order.{base_order}
use Rattle.hnsw_build.specs.declared.settings.HnswSettings.{HnswSettings}
use Rattle.hnsw_build.specs.Layering.{top_of, ids_in, entry_of, entry_first}
use Rattle.hnsw_build.specs.LayeredInsert.{LayeredBuild, row_of_layer, layers_after}

-- the order of insertion
unfoldable pub order_of : List (List ℕ) → HnswSettings → List ℕ → List ℕ
order_of points s levels = entry_first levels (base_order s.order (length points) s.seed)

-- the entry point, at which each search starts
unfoldable pub start_of : List (List ℕ) → HnswSettings → List ℕ → ℕ
start_of points s levels = entry_of levels (base_order s.order (length points) s.seed)

-- the greatest number of points in a batch
abbrev pub batch_cap : List (List ℕ) → HnswSettings → ℕ
batch_cap points s = cap_of (length points) s.cap

-- how many batches there are
abbrev pub batches_of : List (List ℕ) → HnswSettings → ℕ
batches_of points s = total_of (length points) (batch_cap points s)

-- what decides the rows of a batch
abbrev pub build_of : List (List ℕ) → HnswSettings → List ℕ → LayeredBuild
build_of points s levels = record { points = points; levels = levels; start = start_of points s levels; beam = s.beam; degree = s.degree }

-- the layers after k batches
abbrev pub layers_at : List (List ℕ) → HnswSettings → List ℕ → ℕ → List (List (List ℕ))
layers_at points s levels k = layers_after (build_of points s levels) (order_of points s levels) (batch_cap points s) k

-- the ids of layer l with their rows after k batches
abbrev pub entries_at : List (List ℕ) → HnswSettings → List ℕ → ℕ → ℕ → List (ℕ × List ℕ)
entries_at points s levels k l = map (λ id. (id, row_of_layer (layers_at points s levels k) l id)) (ids_in levels l)

-- layer 0 after k batches
abbrev pub base_at : List (List ℕ) → HnswSettings → List ℕ → ℕ → Flat
base_at points s levels k = record { width = s.degree + s.degree; rows = slice_index_or (layers_at points s levels k) 0 [] }

-- the layers above it after k batches, from layer 1 on
abbrev pub upper_at : List (List ℕ) → HnswSettings → List ℕ → ℕ → List Layered
upper_at points s levels k = map (λ l. record { width = s.degree; entries = entries_at points s levels k l }) (range_with_len 1 (top_of levels))
