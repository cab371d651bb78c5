use Rattle.std.proofs.Common.{◌≡◌, ◌+◌, ◌-◌, ◌≤◌, length, drop}
use Rattle.ann_defs.specs.Distance.{dist_of}
use Rattle.lane_distance.proofs.within.dist_within.Given as goal

abbrev pub invariant-loop-at : goal.invariant-loop-at
invariant-loop-at l = record {
  so_far : l.total + dist_of (drop l.at l.a) (drop l.at l.b) ≡ dist_of l.a l.b;
  inside : l.at ≤ length l.a;
}

abbrev pub decreases-loop-at : goal.decreases-loop-at
decreases-loop-at l = length l.a - l.at
