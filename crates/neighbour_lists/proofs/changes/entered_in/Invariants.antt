use Rattle.std.proofs.Common.{◌≡◌, ◌≤◌, length, not, take}
use Rattle.std.specs.List.{filter}
use Rattle.ann_defs.specs.Graph.{has}
use Rattle.neighbour_lists.proofs.changes.entered_in.Given as goal

abbrev pub invariant-loop-id : goal.invariant-loop-id
invariant-loop-id l = record {
  count : l.count ≡ length (filter (λ u. not (has l.old u)) (take l.id-index l.new));
  bound : l.count ≤ l.id-index;
}
