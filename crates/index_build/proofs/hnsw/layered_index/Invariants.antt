use Rattle.std.proofs.Common.{◌≡◌}
use Rattle.index_build.proofs.hnsw.layered_index.Given as goal

abbrev pub invariant-loop-batch : goal.invariant-loop-batch
invariant-loop-batch g l = record {
  so_far : l.builder ≡ record l.initial.builder { batch = l._batch };
  workers : g.P.Rounds.count l.pool ≡ g.P.Rounds.count l.initial.pool;
}
