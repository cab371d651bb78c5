use Rattle.std.proofs.Common.{◌≡◌, ◌≤◌, length, take}
use Rattle.std.specs.Prelude.{vec_capacity}
use Rattle.batch_insert.specs.Proposing.{targets_of}
use Rattle.batch_insert.proofs.proposals.list_targets.Given as goal

abbrev pub invariant-loop-i : goal.invariant-loop-i
invariant-loop-i l = record {
  items : l.targets.items ≡ targets_of (take l.i l.pairs);
  count : length l.targets.items ≤ l.i;
  capacity : vec_capacity l.fn.targets ≤ vec_capacity l.targets;
}
