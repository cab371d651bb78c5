use Rattle.std.proofs.Common.{◌≡◌, ℕ, List, ◌+◌, ◌*◌, ◌≤◌, take, length}
use Rattle.std.specs.List.{sum_by}
use Rattle.graph_rows.specs.Layers.{Layered}
use Rattle.graph_rows.proofs.Totals.{edges_in}
use Rattle.graph_rows.proofs.index.Index.edges.Given as goal

abbrev pub invariant-loop-layer : goal.invariant-loop-layer
invariant-loop-layer l = record {
  sum : l.edges ≡ sum_by (λ (row : List ℕ). length row) l.self.base.rows + sum_by (λ (x : Layered). edges_in x.entries) (take l.layer-index l.self.upper.items);
  bound : l.edges ≤ 134217728 * (l.layer-index + 1);
}
