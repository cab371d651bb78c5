-- Rows of the search graph.
use Rattle.std.proofs.Common.{ℕ, ◌<◌, List, ◌++◌, length, sym, subst, inl, inr, arith}
use Rattle.std.specs.List.{range_with_len}
use Rattle.ann_defs.specs.Graph.{has, row_in, IsGoodRow, AreGoodRows}
use Rattle.ann_defs.specs.Ordered.{Has}
use Rattle.ann_defs.proofs.Order.{All_has}
use Rattle.ann_defs.proofs.Members.{has-append, filter_has, range_has}
use Rattle.ann_defs.proofs.GoodRows.{prune_without_good}
use Rattle.neighbour_lists.specs.ListRound.{sources_of}
use Rattle.neighbour_lists.proofs.AllRows.{mapped_count, mapped_row}
use Rattle.nn_descent.specs.SearchGraph.{graph_row, graph_rows}

module _ (points rows : List (List ℕ)) (list : ℕ) (good : AreGoodRows (length points) list rows) (num den degree : ℕ) where
  -- both directions are points
  both_inside : (v : ℕ) → v < length points → (u : ℕ) → Has (row_in rows v ++ sources_of rows v) u → u < length points
  both_inside v lt u h =
      elim (has-append (row_in rows v) (sources_of rows v) u h) as (λ _. u < length points) [
        | inl m ↦ All_has (λ w. w < length points) (row_in rows v) u (good.good v lt).inside m
        | inr m ↦ let range = range_has 0 (length rows) u (filter_has (λ w. has (row_in rows w) v) (range_with_len 0 (length rows)) u m).0 in omega (arith, range, good.count)
      ]

  -- a row of the search graph is good
  graph_row_good : (v : ℕ) → v < length points → IsGoodRow (length points) degree v (graph_row points rows num den degree v)
  graph_row_good v lt = prune_without_good points v (row_in rows v ++ sources_of rows v) num den degree (length points) (both_inside v lt)

  -- the rows of the search graph are good
  pub graph_good : AreGoodRows (length points) degree (graph_rows points rows num den degree)
  graph_good = record {
    count = mapped_count (graph_row points rows num den degree) (length points);
    good = λ u lt. subst (IsGoodRow (length points) degree u) (sym (mapped_row (graph_row points rows num den degree) (length points) u lt)) (graph_row_good u lt);
  }
