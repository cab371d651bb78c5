use Rattle.std.proofs.Common.{◌≡◌, length, map, take}
use Rattle.neighbour_lists.specs.declared.edge.Edge.{Edge}
use Rattle.nn_descent.proofs.sides.copy_sources.Given as goal

abbrev pub invariant-loop-edge : goal.invariant-loop-edge
invariant-loop-edge l = record {
  list : take l.count l.room ≡ map (λ (e : Edge). e.source) (take l.edge-index l.edges);
  count : l.count ≡ l.edge-index;
  len : length l.room ≡ length l.fn.room;
}
