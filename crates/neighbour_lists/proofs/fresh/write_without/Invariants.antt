use Rattle.std.proofs.Common.{◌≡◌, ◌≤◌, ◌++◌, not, length, take}
use Rattle.std.specs.List.{filter}
use Rattle.ann_defs.specs.Graph.{has}
use Rattle.neighbour_lists.proofs.fresh.write_without.Given as goal

abbrev pub invariant-loop-id : goal.invariant-loop-id
invariant-loop-id l = record {
  ids : take l.len l.room ≡ filter (λ w. not (has (l.part ++ l.other) w)) (take l.id-index l.row);
  bound : l.len ≤ l.id-index;
  len : length l.room ≡ length l.fn.room;
}
