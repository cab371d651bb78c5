use Rattle.std.proofs.Common.{◌≡◌, ◌++◌, true, take}
use Rattle.std.specs.List.{All}
use Rattle.ann_defs.specs.Graph.{has}
use Rattle.neighbour_lists.specs.Reversed.{edge_ids}
use Rattle.neighbour_lists.proofs.around.has_row.Given as goal

abbrev pub invariant-loop-id : goal.invariant-loop-id
invariant-loop-id l = All (λ u. has (l.around.row.now ++ edge_ids l.around.edges.now) u ≡ true) (take l.id-index l.row)
