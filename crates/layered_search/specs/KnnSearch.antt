-- HNSW's descent through the layers: Malkov and Yashunin, "Efficient and robust approximate nearest neighbor search
-- using Hierarchical Navigable Small World graphs", Algorithm 5 K-NN-SEARCH, which goes down as Algorithm 1 INSERT
-- does. Each layer is searched as in `GreedySearch` (Algorithm 2 SEARCH-LAYER).
-- Differences: layer 0 is searched with the query's own beam; the k nearest are cut off afterwards; ties go by id.
use Rattle.std.specs.Prelude.{ℕ, zero, suc, if◌then◌else◌, nat_le, List, [], ◌∷◌}
use Rattle.ann_defs.specs.declared.near.Near.{Near}
use Rattle.ann_defs.specs.Nearness.{ids_of}
use Rattle.ann_defs.specs.GreedySearch.{found_of}

-- the rows are given by layer and id
module _ (points : List (List ℕ)) (row : ℕ → ℕ → List ℕ) (query : List ℕ) where
  -- the entries into layer `to`: each layer from `from` down to the one above `to` is searched from the entries so far,
  -- and what is found are the entries into the layer below
  abbrev pub entries_down : (beam : ℕ) (entries : List ℕ) (from to : ℕ) → List ℕ
  entries_down beam entries zero to = entries
  entries_down beam entries (suc l) to =
      if nat_le (suc l) to then entries else entries_down beam (ids_of (found_of points (row (suc l)) query beam entries)) l to

  -- from the start in the top layer, with beam 1 above layer 0, and with the query's beam there
  abbrev pub descent_of : (beam start top : ℕ) → List Near
  descent_of beam start top = found_of points (row 0) query beam (entries_down 1 (start ∷ []) top 0)
