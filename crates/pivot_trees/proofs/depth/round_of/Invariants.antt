use Rattle.std.proofs.Common.{◌+◌, ◌*◌, ◌<◌, ◌≤◌, length, take}
use Rattle.std.specs.List.{All}
use Rattle.pivot_trees.specs.Blocks.{lists_of}
use Rattle.pivot_trees.proofs.depth.round_of.Given as goal

abbrev pub invariant-loop-i : goal.invariant-loop-i
invariant-loop-i l = record {
  wide : 0 < l.width;
  bound : l.width ≤ 4194305;
  fit : All (λ ids. length ids + 1 ≤ l.width) (lists_of (take l.i l.lists));
  words : l.i * l.width ≤ l.limit;
}
