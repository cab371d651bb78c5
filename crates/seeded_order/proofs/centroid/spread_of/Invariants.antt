use Rattle.std.proofs.Common.{◌≡◌, ◌*◌, ◌≤◌, get_or}
use Rattle.std.specs.List.{sum_by, range_with_len}
use Rattle.ann_defs.specs.Distance.{squared_gap}
use Rattle.seeded_order.proofs.centroid.spread_of.Given as goal

abbrev pub invariant-loop-j : goal.invariant-loop-j
invariant-loop-j l = record {
  total : l.total ≡ sum_by (λ j. squared_gap (l.n * get_or l.point j 0) (get_or l.sums j 0)) (range_with_len 0 l.j);
  bound : l.total ≤ l.j * 1152921504606846976;
}
