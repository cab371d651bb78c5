use Rattle.std.proofs.Common.{◌≡◌, ◌≤◌, ◌==◌, take, count_by}
use Rattle.steal_table.proofs.report.count_of.Given as goal

abbrev pub invariant-loop-task : goal.invariant-loop-task
invariant-loop-task l = record {
  count : l.count ≡ count_by (λ j. j == l.number) (take l.task l.owners);
  most : l.count ≤ l.task;
}
