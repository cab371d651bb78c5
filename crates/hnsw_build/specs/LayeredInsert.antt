-- The insertion of a batch into the layers: Malkov and Yashunin, "Efficient and robust approximate nearest neighbor
-- search using Hierarchical Navigable Small World graphs", Algorithm 1 INSERT(hnsw, q, M, M_max, efConstruction, mL),
-- with Algorithm 2 SEARCH-LAYER and Algorithm 4 SELECT-NEIGHBORS-HEURISTIC.
-- Differences: points are inserted in batches of doubling size, each searched in the layers as they stood before its
-- batch; the heuristic is RobustPrune at 1/1, which drops a candidate that is as near to a kept one as to the point
-- too; a row of layer 0 has at most twice the degree, all others at most the degree; no candidates are added to those
-- that were found (extendCandidates), and none that was dropped is kept (keepPrunedConnections); a target's reverse
-- edges are merged as in `BatchInsert`; ties go by id.
use Rattle.std.specs.Prelude.{ℕ, zero, suc, ◌+◌, ◌==◌, ◌&&◌, Bool, if◌then◌else◌, List, [], ◌∷◌, map, length, replicate, slice_index_or}
use Rattle.std.specs.List.{range_with_len}
use Rattle.ann_defs.specs.declared.near.Near.{Near}
use Rattle.ann_defs.specs.Distance.{point}
use Rattle.ann_defs.specs.Nearness.{ids_of}
use Rattle.ann_defs.specs.Graph.{has, without, row_in}
use Rattle.ann_defs.specs.GreedySearch.{found_of}
use Rattle.ann_defs.specs.RobustPrune.{pruned_row}
use Rattle.ann_defs.specs.BatchInsert.{batch_at, merge_of, row_then, rows_then}
use Rattle.layered_search.specs.KnnSearch.{entries_down}
use Rattle.hnsw_build.specs.Layering.{level_in, top_of, is_in}

-- what decides a build over a point set: its levels, the entry point, the beam and the degree
pub record LayeredBuild : Type 0 where
  pub points : List (List ℕ)
  pub levels : List ℕ
  pub start : ℕ
  pub beam : ℕ
  pub degree : ℕ

-- the row of an id in layer l; each layer is a list of n rows, empty where the layer doesn't hold the id
abbrev pub row_of_layer : List (List (List ℕ)) → ℕ → ℕ → List ℕ
row_of_layer layers l id = row_in (slice_index_or layers l []) id

-- the greatest length of a row in layer l
abbrev pub bound_of : ℕ → ℕ → ℕ
bound_of degree l = if l == 0 then degree + degree else degree

module _ (b : LayeredBuild) where
  -- the entries from which layer l is searched for p: down to the level of p with beam 1, and from there with the beam
  abbrev pub entries_for : List (List (List ℕ)) → ℕ → ℕ → List ℕ
  entries_for layers p l =
      let level = level_in b.levels p in
      let query = point b.points p in
      entries_down b.points (row_of_layer layers) query b.beam (entries_down b.points (row_of_layer layers) query 1 (b.start ∷ []) (top_of b.levels) level) level l

  -- what is found for p in layer l
  abbrev pub found_for : List (List (List ℕ)) → ℕ → ℕ → List Near
  found_for layers p l = found_of b.points (row_of_layer layers l) (point b.points p) b.beam (entries_for layers p l)

  -- the new row of p in layer l
  abbrev pub new_row_in : List (List (List ℕ)) → ℕ → ℕ → List ℕ
  new_row_in layers l p = pruned_row b.points p (without p (ids_of (found_for layers p l))) 1 1 b.degree

  -- whether an id of the batch is in layer l
  abbrev pub inserts : List ℕ → ℕ → ℕ → Bool
  inserts batch l id = has batch id && is_in b.levels l id

  -- the row of t with its sources, in layer l
  abbrev pub merged_in : ℕ → ℕ → List ℕ → List ℕ → List ℕ
  merged_in l t row sources = merge_of b.points 1 1 (bound_of b.degree l) t row sources

  -- the row of an id in layer l after a batch
  abbrev pub row_next : List (List (List ℕ)) → List ℕ → ℕ → ℕ → List ℕ
  row_next layers batch l id = row_then (length b.points) (row_of_layer layers l) (new_row_in layers l) (inserts batch l) (merged_in l) id

  -- layer l after a batch
  abbrev pub layer_next : List (List (List ℕ)) → List ℕ → ℕ → List (List ℕ)
  layer_next layers batch l = rows_then (length b.points) (row_of_layer layers l) (new_row_in layers l) (inserts batch l) (merged_in l)

  -- all layers after a batch
  abbrev pub layered_step : List (List (List ℕ)) → List ℕ → List (List (List ℕ))
  layered_step layers batch = map (layer_next layers batch) (range_with_len 0 (top_of b.levels + 1))

-- the layers after k batches
abbrev pub layers_after : LayeredBuild → List ℕ → ℕ → ℕ → List (List (List ℕ))
layers_after b order cap zero = replicate (top_of b.levels + 1) (replicate (length b.points) [])
layers_after b order cap (suc k) = layered_step b (layers_after b order cap k) (batch_at order cap (suc k))
