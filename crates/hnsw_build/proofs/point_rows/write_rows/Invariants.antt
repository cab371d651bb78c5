use Rattle.std.proofs.Common.{◌≡◌, ◌+◌, ◌-◌, ◌*◌, ◌≤◌, ℕ, suc, length, take, drop}
use Rattle.hnsw_build.specs.Layering.{level_in}
use Rattle.hnsw_build.specs.LayeredInsert.{entries_for}
use Rattle.hnsw_build.specs.Grown.{build_in, layers_in, ServesIn}
use Rattle.hnsw_build.specs.Wanted.{rows_from}
use Rattle.hnsw_build.proofs.point_rows.write_rows.Given as goal

abbrev pub invariant-loop-layer : goal.invariant-loop-layer
invariant-loop-layer l = record {
  within : l.layer ≤ level_in l.layers.plan.now.levels.items l.p + 1;
  entries : (k : ℕ) → l.layer ≡ suc k → take l.count l.entries ≡ entries_for (build_in l.layers) (layers_in l.layers) l.p k;
  few : l.count ≤ 1024;
  many : length l.entries ≡ 1024;
  rows : drop (l.layer * l.size) l.out ≡ rows_from (build_in l.layers) (layers_in l.layers) l.p l.layer (level_in l.layers.plan.now.levels.items l.p + 1 - l.layer);
  serves : ServesIn l.layers l.scratch;
}

abbrev pub decreases-loop-layer : goal.decreases-loop-layer
decreases-loop-layer l = l.layer
