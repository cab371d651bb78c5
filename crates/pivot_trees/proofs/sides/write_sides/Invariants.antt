use Rattle.std.proofs.Common.{◌≡◌, ◌+◌, ◌≤◌, not, length, take, drop, reverse}
use Rattle.std.specs.List.{filter}
use Rattle.pivot_trees.specs.Leaves.{is_left}
use Rattle.pivot_trees.proofs.sides.write_sides.Given as goal

abbrev pub invariant-loop-id : goal.invariant-loop-id
invariant-loop-id l = record {
  size : length l.out ≡ length l.ids;
  places : l.left + length l.ids ≡ l.id-index + l.right;
  within : l.right ≤ length l.ids;
  near : take l.left l.out ≡ filter (is_left l.points.vectors l.first l.second) (take l.id-index l.ids);
  far : drop l.right l.out ≡ reverse (filter (λ id. not (is_left l.points.vectors l.first l.second id)) (take l.id-index l.ids));
}
