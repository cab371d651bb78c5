use Rattle.std.proofs.Common.{◌≡◌, ◌-◌, map, []}
use Rattle.std.specs.List.{range_with_len}
use Rattle.hnsw_build.specs.Layering.{ids_in}
use Rattle.hnsw_build.proofs.hnsw.empty_layers.Given as goal

abbrev pub invariant-loop-layer : goal.invariant-loop-layer
invariant-loop-layer l = l.layers.items ≡ map (λ k. record { width = l.plan.settings.degree; entries = map (λ id. (id, [])) (ids_in l.plan.levels.items k) }) (range_with_len 1 (l.layer - 1))
