use Rattle.std.proofs.Common.{◌≡◌, false, take}
use Rattle.ann_defs.specs.Graph.{has}
use Rattle.neighbour_lists.specs.Reversed.{edge_ids}
use Rattle.neighbour_lists.proofs.around.is_source.Given as goal

abbrev pub invariant-loop-edge : goal.invariant-loop-edge
invariant-loop-edge l = has (edge_ids (take l.edge-index l.edges)) l.id ≡ false
