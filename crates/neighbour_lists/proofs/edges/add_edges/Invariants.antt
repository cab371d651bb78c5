use Rattle.std.proofs.Common.{◌≡◌, ◌++◌, map, take}
use Rattle.neighbour_lists.specs.Edges.{edge_to}
use Rattle.neighbour_lists.proofs.edges.add_edges.Given as goal

abbrev pub invariant-loop-target : goal.invariant-loop-target
invariant-loop-target l = l.edges.items ≡ l.fn.edges.items ++ map (edge_to l.points.vectors l.u) (take l.target-index l.row)
