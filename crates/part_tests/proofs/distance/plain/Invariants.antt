use Rattle.std.proofs.Common.{◌≡◌, ◌+◌, ◌*◌, ◌≤◌, drop}
use Rattle.ann_defs.specs.Distance.{dist_of}
use Rattle.part_tests.proofs.distance.plain.Given as goal

abbrev pub invariant-loop-i : goal.invariant-loop-i
invariant-loop-i l = record {
  so_far : l.total + dist_of (drop l.i l.a) (drop l.i l.b) ≡ dist_of l.a l.b;
  small : l.total ≤ 65025 * l.i;
}
