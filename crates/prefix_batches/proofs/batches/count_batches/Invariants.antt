use Rattle.std.proofs.Common.{◌≡◌, ◌-◌, ◌≤◌}
use Rattle.ann_defs.specs.BatchInsert.{bound_at, total_of}
use Rattle.prefix_batches.proofs.batches.count_batches.Given as goal

abbrev pub invariant-loop-reached : goal.invariant-loop-reached
invariant-loop-reached l = record {
  reached : l.reached ≡ bound_at l.n l.cap l.count;
  count : l.count ≤ total_of l.n l.cap;
}

abbrev pub decreases-loop-reached : goal.decreases-loop-reached
decreases-loop-reached l = l.n - l.reached
