use Rattle.std.proofs.Common.{◌≡◌, ◌≤◌, length, take}
use Rattle.ann_defs.specs.Nearness.{ids_of}
use Rattle.ann_defs.specs.Graph.{without}
use Rattle.neighbour_lists.proofs.nearest.write_ids.Given as goal

abbrev pub invariant-loop-x : goal.invariant-loop-x
invariant-loop-x l = record {
  row : take l.len l.out ≡ take (length l.fn.out) (without l.v (ids_of (take l.x-index l.list)));
  bound : l.len ≤ length l.fn.out;
}
