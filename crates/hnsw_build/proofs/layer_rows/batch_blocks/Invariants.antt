use Rattle.std.proofs.Common.{◌≡◌, ◌+◌, ◌≤◌, map, take, length}
use Rattle.std.specs.List.{filter}
use Rattle.batch_insert.specs.Padded.{padded}
use Rattle.hnsw_build.specs.Layering.{is_in}
use Rattle.hnsw_build.specs.LayeredInsert.{new_row_in}
use Rattle.hnsw_build.specs.Grown.{build_in, layers_in}
use Rattle.hnsw_build.proofs.layer_rows.batch_blocks.Given as goal

abbrev pub invariant-loop-i : goal.invariant-loop-i
invariant-loop-i l = record {
  blocks : map (λ y. y.items) l.blocks.items ≡ map (λ p. padded (l.batch.layers.now.plan.now.settings.degree + 1) (new_row_in (build_in l.batch.layers.now) (layers_in l.batch.layers.now) l.layer p)) (filter (is_in l.batch.layers.now.plan.now.levels.items l.layer) (take l.i l.batch.ids.now));
  few : length l.blocks.items ≤ l.i;
}
