use Rattle.std.proofs.Common.{◌≡◌, ◌≤◌, ◌*◌}
use Rattle.std.specs.List.{range_with_len, sum_by}
use Rattle.neighbour_lists.specs.Changes.{entered_between}
use Rattle.neighbour_lists.proofs.changes.count_changes.Given as goal

abbrev pub invariant-loop-v : goal.invariant-loop-v
invariant-loop-v l = record {
  sum : l.changes ≡ sum_by (entered_between l.old.rows l.new.rows) (range_with_len 0 l.v);
  bound : l.changes ≤ l.v * 128;
}
