use Rattle.std.proofs.Common.{◌≡◌, ◌++◌, take}
use Rattle.std.specs.List.{filter, flat_map}
use Rattle.pivot_trees.specs.Blocks.{lists_of}
use Rattle.pivot_trees.specs.Leaves.{both, is_long, is_short}
use Rattle.pivot_trees.specs.Tasks.{splits_in}
use Rattle.pivot_trees.proofs.parts.keep_parts.Given as goal

abbrev pub invariant-loop-i : goal.invariant-loop-i
invariant-loop-i l = record {
  long : lists_of l.long.items ≡ lists_of l.fn.long.items ++ filter (is_long l.leaf) (flat_map both (take l.i (splits_in l.splits)));
  leaves : lists_of l.leaves.items ≡ lists_of l.fn.leaves.items ++ filter (is_short l.leaf) (flat_map both (take l.i (splits_in l.splits)));
}
