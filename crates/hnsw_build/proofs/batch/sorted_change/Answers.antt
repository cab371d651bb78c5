use Rattle.std.proofs.Common.{ℕ, Bool, ap}
use Rattle.hnsw_build.proofs.LayersFacts.{base_held_is}
use Rattle.hnsw_build.proofs.batch.sorted_change.Goals as goal

pub layer_change-requires-clause-held : goal.layer_change-requires-clause-held
layer_change-requires-clause-held g c κs within = λ u. ap (λ (h : ℕ → Bool). h u) (base_held_is c.args.layers.now)
