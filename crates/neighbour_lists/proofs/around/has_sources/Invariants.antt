use Rattle.std.proofs.Common.{◌≡◌, ◌++◌, true, take}
use Rattle.std.specs.List.{All}
use Rattle.ann_defs.specs.Graph.{has}
use Rattle.neighbour_lists.specs.declared.edge.Edge.{Edge}
use Rattle.neighbour_lists.specs.Reversed.{edge_ids}
use Rattle.neighbour_lists.proofs.around.has_sources.Given as goal

abbrev pub invariant-loop-edge : goal.invariant-loop-edge
invariant-loop-edge l = All (λ (e : Edge). has (l.around.row.now ++ edge_ids l.around.edges.now) e.source.id ≡ true) (take l.edge-index l.edges)
