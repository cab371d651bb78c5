use Rattle.std.proofs.Common.{◌≡◌, length, take}
use Rattle.std.specs.List.{flat_map, range_with_len, sum_by}
use Rattle.neighbour_lists.specs.Edges.{edges_from}
use Rattle.neighbour_lists.proofs.edges.all_edges.Given as goal

abbrev pub invariant-loop-u : goal.invariant-loop-u
invariant-loop-u l = record {
  edges : l.edges.items ≡ flat_map (edges_from l.points.vectors l.rows.rows) (range_with_len 0 l.u);
  count : length l.edges.items ≡ sum_by (λ row. length row) (take l.u l.rows.rows);
}
