use Rattle.std.proofs.Common.{◌≡◌, ◌≤◌, not, length, take}
use Rattle.std.specs.List.{filter}
use Rattle.ann_defs.specs.Graph.{has}
use Rattle.neighbour_lists.specs.Reversed.{edge_ids}
use Rattle.neighbour_lists.proofs.others.write_others.Given as goal

abbrev pub invariant-loop-edge : goal.invariant-loop-edge
invariant-loop-edge l = record {
  ids : take l.len l.room ≡ filter (λ w. not (has l.row w)) (edge_ids (take l.edge-index l.edges));
  bound : l.len ≤ l.edge-index;
  len : length l.room ≡ length l.fn.room;
}
