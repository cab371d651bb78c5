-- The descent through an index.
use Rattle.std.specs.Prelude.{ℕ, ◌-◌, List, [], length, slice_index_or}
use Rattle.ann_defs.specs.declared.near.Near.{Near}
use Rattle.graph_rows.specs.Index.{Contents, layer_ids, layer_rows}
use Rattle.graph_rows.specs.Layers.{place_in}
use Rattle.layered_search.specs.KnnSearch.{descent_of}

-- the row of an id in a layer, empty where the layer doesn't hold it
abbrev pub row_of_id : List (ℕ × List ℕ) → ℕ → List ℕ
row_of_id layer id = slice_index_or (layer_rows layer) (place_in (layer_ids layer) id) []

-- the row of an id in layer l of an index
abbrev pub contents_row : Contents → ℕ → ℕ → List ℕ
contents_row i l id = row_of_id (slice_index_or i.layers l []) id

-- what a query with this beam finds in layer 0, nearest first
unfoldable pub descent_in : List (List ℕ) → Contents → List ℕ → ℕ → List Near
descent_in points i query beam = descent_of points (contents_row i) query beam i.start (length i.layers - 1)
