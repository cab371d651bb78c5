-- The search graph of lists: each point's neighbours in both directions, pruned by RobustPrune (DiskANN, Algorithm 2), as
-- pyNNDescent diversifies its lists.
-- Differences: one prune goes over both directions; all reverse neighbours count, not the nearest alone.
use Rattle.std.specs.Prelude.{ℕ, ◌≤◌, List, ◌++◌, map, length}
use Rattle.std.specs.List.{range_with_len}
use Rattle.std.proofs.lemmas.List.{length-map}
use Rattle.ann_defs.specs.declared.near.Near.{Near}
use Rattle.ann_defs.specs.Distance.{point}
use Rattle.ann_defs.specs.Nearness.{near_cmp, all_near}
use Rattle.ann_defs.specs.Ordered.{ordered}
use Rattle.ann_defs.specs.Graph.{without, row_in}
use Rattle.ann_defs.specs.RobustPrune.{stays, pruned, pruned_row}
use Rattle.ann_defs.proofs.GoodRows.{kept_short}
use Rattle.neighbour_lists.specs.ListRound.{sources_of}

module _ (points rows : List (List ℕ)) (num den degree : ℕ) where
  -- the row of v
  abbrev pub graph_row : ℕ → List ℕ
  graph_row v = pruned_row points v (without v (row_in rows v ++ sources_of rows v)) num den degree

  -- all rows
  abbrev pub graph_rows : List (List ℕ)
  graph_rows = map graph_row (range_with_len 0 (length points))

-- a row has at most as many ids as it may
pub row_short : (points rows : List (List ℕ)) (num den degree v : ℕ) → length (graph_row points rows num den degree v) ≤ degree
row_short points rows num den degree v =
    let set = all_near points (point points v) (without v (row_in rows v ++ sources_of rows v)) in
    let short = kept_short (stays points num den) degree (ordered near_cmp set) in
    rw (length-map (pruned points num den degree set) (λ (y : Near). y.id)) short
