use Rattle.std.proofs.Common.{◌≡◌, ◌-◌, map}
use Rattle.std.specs.List.{range_with_len}
use Rattle.steal_pool.specs.Work.{AllServe}
use Rattle.hnsw_build.specs.Grown.{build_in, layers_in, ServesIn}
use Rattle.hnsw_build.specs.Wanted.{change_in}
use Rattle.hnsw_build.proofs.batch.upper_changes.Given as goal

abbrev pub invariant-loop-layer : goal.invariant-loop-layer
invariant-loop-layer g l = record {
  changes : l.changes.items ≡ map (change_in (build_in l.batch.layers.now) (layers_in l.batch.layers.now) l.batch.ids.now) (range_with_len 1 (l.layer - 1));
  serve : AllServe (ServesIn l.batch.layers.now) l.posts;
  workers : g.P.Rounds.count l.pool ≡ g.P.Rounds.count l.fn.pool;
}
