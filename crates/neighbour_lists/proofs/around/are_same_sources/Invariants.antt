use Rattle.std.proofs.Common.{◌≡◌, take}
use Rattle.neighbour_lists.specs.Reversed.{edge_ids}
use Rattle.neighbour_lists.proofs.around.are_same_sources.Given as goal

abbrev pub invariant-loop-i : goal.invariant-loop-i
invariant-loop-i l = edge_ids (take l.i l.edges) ≡ edge_ids (take l.i l.others)
