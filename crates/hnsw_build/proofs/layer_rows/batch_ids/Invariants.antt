use Rattle.std.proofs.Common.{◌≡◌, take}
use Rattle.std.specs.List.{filter}
use Rattle.hnsw_build.specs.Layering.{is_in}
use Rattle.hnsw_build.proofs.layer_rows.batch_ids.Given as goal

abbrev pub invariant-loop-id : goal.invariant-loop-id
invariant-loop-id l = l.ids.items ≡ filter (is_in l.batch.layers.now.plan.now.levels.items l.layer) (take l.id-index l.batch.ids.now)
