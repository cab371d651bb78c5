-- What a descent amounts to.
use Rattle.std.specs.Prelude.{◌≡◌, ℕ, List, [], ◌∷◌, length}
use Rattle.std.specs.List.{range_with_len}
use Rattle.ann_defs.specs.Graph.{row_in}
use Rattle.ann_defs.specs.GreedySearch.{found_of}
use Rattle.graph_rows.specs.Index.{Contents, layer_ids, layer_rows}
use Rattle.graph_rows.specs.WellFormed.{base_of}
use Rattle.layered_search.specs.Descent.{descent_in}

-- in an index with one layer, which holds all ids, a descent is the search from the start
abbrev pub OneLayerIsSearched : Type 0
OneLayerIsSearched = (points : List (List ℕ)) (i : Contents) (query : List ℕ) (beam : ℕ)
    → length i.layers ≡ 1 → layer_ids (base_of i) ≡ range_with_len 0 i.count
    → descent_in points i query beam ≡ found_of points (row_in (layer_rows (base_of i))) query beam (i.start ∷ [])
