use Rattle.std.proofs.Common.{◌≡◌, ◌≤◌, ◌-◌, map, take, length}
use Rattle.steal_pool.specs.Work.{AllServe}
use Rattle.hnsw_build.specs.Grown.{build_in, layers_in, ServesIn}
use Rattle.hnsw_build.specs.Wanted.{rows_of_point}
use Rattle.hnsw_build.proofs.blocks.new_rows.Given as goal

abbrev pub invariant-loop-from : goal.invariant-loop-from
invariant-loop-from g l = record {
  rows : map (λ y. y.items) l.rows.items ≡ map (rows_of_point (build_in l.layers) (layers_in l.layers)) (take l.from l.batch);
  within : l.from ≤ length l.batch;
  serve : AllServe (ServesIn l.layers) l.posts;
  workers : g.P.Rounds.count l.pool ≡ g.P.Rounds.count l.fn.pool;
}

abbrev pub decreases-loop-from : goal.decreases-loop-from
decreases-loop-from g l = length l.batch - l.from
