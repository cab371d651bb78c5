use Rattle.std.proofs.Common.{◌≡◌, ◌+◌, ◌-◌, ◌*◌, ◌≤◌, length}
use Rattle.std.specs.List.{range_with_len, sum_by}
use Rattle.graph_rows.specs.WellFormed.{layer_words}
use Rattle.hnsw_build.specs.Layering.{ids_in}
use Rattle.hnsw_build.proofs.plan.HnswPlan.words.Given as goal

abbrev pub invariant-loop-layer : goal.invariant-loop-layer
invariant-loop-layer l = record {
  value : l.words ≡ layer_words (length l.self.levels.items) (l.self.settings.degree + l.self.settings.degree) + sum_by (λ k. layer_words (length (ids_in l.self.levels.items k)) l.self.settings.degree) (range_with_len 1 (l.layer - 1));
  bound : l.words ≤ l.layer * 541065216;
}
