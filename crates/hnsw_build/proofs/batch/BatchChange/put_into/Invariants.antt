use Rattle.std.proofs.Common.{◌≡◌, ◌<◌, ◌≤◌, ℕ, [], get_or}
use Rattle.batch_insert.specs.Changes.{put_all_in_layer}
use Rattle.graph_rows.specs.Layers.{Layered}
use Rattle.hnsw_build.proofs.batch.BatchChange.put_into.Given as goal

abbrev pub invariant-loop-k : goal.invariant-loop-k
invariant-loop-k l = record {
  done : (j : ℕ) (d : Layered) → j < l.k → get_or l.upper j d ≡ put_all_in_layer (get_or l.fn.upper j d) (get_or l.self.upper.items j []);
  left : (j : ℕ) (d : Layered) → l.k ≤ j → get_or l.upper j d ≡ get_or l.fn.upper j d;
}
