-- Layers above the first, by their numbers: the layer at place k is layer k + 1.
use Rattle.std.specs.Prelude.{◌≡◌, ℕ, zero, suc, ◌+◌, ◌<◌, Bool, true, List, [], length, slice_index_or}
use Rattle.ann_defs.specs.Graph.{has, IsGraph}
use Rattle.graph_rows.specs.Index.{layer_ids}
use Rattle.graph_rows.specs.Layers.{Layered, layer_row}

-- the layer at a place, and one without ids behind the last
abbrev pub layer_at : List Layered → ℕ → Layered
layer_at layers k = slice_index_or layers k (record { width = 0; entries = [] })

-- whether the layer at a place holds an id
abbrev pub holds_at : List Layered → ℕ → ℕ → Bool
holds_at layers k id = has (layer_ids (layer_at layers k).entries) id

-- the row of an id in layer l, from layer 1 on
abbrev pub upper_row : List Layered → ℕ → ℕ → List ℕ
upper_row layers zero id = []
upper_row layers (suc l) id = layer_row (layer_at layers l) id

-- layers of n points that can be walked down from the start: each is a graph, holds the start, and holds what is held
-- above
pub record AreEnterable (n start : ℕ) (layers : List Layered) : Type 0 where
  pub start_below : start < n
  pub graphs : (k : ℕ) → k < length layers → IsGraph n (holds_at layers k) (layer_row (layer_at layers k))
  pub starts : (k : ℕ) → k < length layers → holds_at layers k start ≡ true
  pub nested : (k : ℕ) → k + 1 < length layers → (id : ℕ) → holds_at layers (k + 1) id ≡ true → holds_at layers k id ≡ true
