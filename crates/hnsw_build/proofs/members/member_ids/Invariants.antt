use Rattle.std.proofs.Common.{◌≡◌}
use Rattle.std.specs.List.{filter, range_with_len}
use Rattle.hnsw_build.specs.Layering.{is_in}
use Rattle.hnsw_build.proofs.members.member_ids.Given as goal

abbrev pub invariant-loop-id : goal.invariant-loop-id
invariant-loop-id l = l.ids.items ≡ filter (is_in l.levels l.layer) (range_with_len 0 l.id)
