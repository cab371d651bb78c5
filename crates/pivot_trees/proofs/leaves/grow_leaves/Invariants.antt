use Rattle.std.proofs.Common.{◌≡◌, ◌+◌, ◌-◌, ◌≤◌, length}
use Rattle.std.specs.List.{filter, flat_map, range_with_len}
use Rattle.pivot_trees.specs.Blocks.{lists_of}
use Rattle.pivot_trees.specs.Leaves.{is_long, level_at, leaves_at}
use Rattle.pivot_trees.proofs.leaves.grow_leaves.Given as goal

abbrev pub invariant-depths : goal.invariant-depths
invariant-depths g l = record {
  within : l.depth + 1 ≤ length l.root.points.now.vectors;
  first : l.number ≡ (level_at l.root.points.now.vectors l.root.seed l.root.tree l.leaf l.depth).first;
  long : lists_of l.lists.items ≡ filter (is_long l.leaf) (level_at l.root.points.now.vectors l.root.seed l.root.tree l.leaf l.depth).lists;
  leaves : lists_of l.leaves.items ≡ flat_map (leaves_at l.root.points.now.vectors l.root.seed l.root.tree l.leaf) (range_with_len 0 (l.depth + 1));
  posts : length l.posts ≡ length l.fn.posts;
  workers : g.P.Rounds.count l.pool ≡ g.P.Rounds.count l.fn.pool;
}

abbrev pub decreases-depths : goal.decreases-depths
decreases-depths g l = length l.root.points.now.vectors - l.depth
