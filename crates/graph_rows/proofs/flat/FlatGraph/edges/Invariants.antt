use Rattle.std.proofs.Common.{◌≡◌, ◌*◌, ◌≤◌, take, length}
use Rattle.std.specs.List.{sum_by}
use Rattle.graph_rows.proofs.flat.FlatGraph.edges.Given as goal

abbrev pub invariant-loop-i : goal.invariant-loop-i
invariant-loop-i l = record {
  sum : l.edges ≡ sum_by (λ row. length row) (take l.i l.self.rows);
  bound : l.edges ≤ l.i * l.self.width;
}
