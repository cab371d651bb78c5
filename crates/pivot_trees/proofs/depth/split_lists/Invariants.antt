use Rattle.std.proofs.Common.{◌≡◌, ◌-◌, ◌≤◌, ◌++◌, length, take}
use Rattle.std.specs.List.{filter}
use Rattle.pivot_trees.specs.Blocks.{lists_of}
use Rattle.pivot_trees.specs.Leaves.{is_long, is_short, parts_from}
use Rattle.pivot_trees.proofs.depth.split_lists.Given as goal

abbrev pub invariant-loop-from : goal.invariant-loop-from
invariant-loop-from g l = record {
  within : l.from ≤ length l.lists;
  long : lists_of l.long.items ≡ lists_of l.fn.long.items ++ filter (is_long l.leaf) (parts_from l.splitter.points.now.vectors l.splitter.seed l.splitter.tree l.splitter.depth l.number (lists_of (take l.from l.lists)));
  leaves : lists_of l.leaves.items ≡ lists_of l.fn.leaves.items ++ filter (is_short l.leaf) (parts_from l.splitter.points.now.vectors l.splitter.seed l.splitter.tree l.splitter.depth l.number (lists_of (take l.from l.lists)));
  posts : length l.posts ≡ length l.fn.posts;
  workers : g.P.Rounds.count l.pool ≡ g.P.Rounds.count l.fn.pool;
}

abbrev pub decreases-loop-from : goal.decreases-loop-from
decreases-loop-from g l = length l.lists - l.from
