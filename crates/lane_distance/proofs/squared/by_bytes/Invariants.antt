use Rattle.std.proofs.Common.{◌≡◌, ◌+◌, drop}
use Rattle.ann_defs.specs.Distance.{dist_of}
use Rattle.lane_distance.proofs.squared.by_bytes.Given as goal

abbrev pub invariant-loop-i : goal.invariant-loop-i
invariant-loop-i l = record {
  so_far : l.total + dist_of (drop l.i l.a) (drop l.i l.b) ≡ dist_of (drop l.from l.a) (drop l.from l.b);
}
