use Rattle.std.proofs.Common.{◌≡◌, ◌≤◌, length}
use Rattle.std.specs.List.{filter, range_with_len}
use Rattle.hnsw_build.specs.Layering.{is_in}
use Rattle.hnsw_build.proofs.members.members.Given as goal

abbrev pub invariant-loop-id : goal.invariant-loop-id
invariant-loop-id l = record {
  value : l.count ≡ length (filter (is_in l.levels l.layer) (range_with_len 0 l.id));
  bound : l.count ≤ l.id;
}
