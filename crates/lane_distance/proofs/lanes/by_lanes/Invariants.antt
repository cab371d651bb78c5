use Rattle.std.proofs.Common.{◌≡◌, ◌+◌, ◌-◌, ◌≤◌, length, drop}
use Rattle.std.specs.Simd.Lanes.{sum_l}
use Rattle.ann_defs.specs.Distance.{dist_of}
use Rattle.lane_distance.proofs.lanes.by_lanes.Given as goal

abbrev pub invariant-loop-at : goal.invariant-loop-at
invariant-loop-at g l = record {
  so_far : sum_l l.sums + dist_of (drop l.at l.a) (drop l.at l.b) ≡ dist_of (drop l.from l.a) (drop l.from l.b);
  lanes : length l.sums ≡ g.row.N;
  inside : l.at ≤ length l.a;
}

abbrev pub decreases-loop-at : goal.decreases-loop-at
decreases-loop-at g l = length l.a - l.at
