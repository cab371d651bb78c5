use Rattle.std.proofs.Common.{◌∙◌, ◌++◌, ◌∷◌, [], ℕ, List, Bool, sym, ap, arith}
use Rattle.hnsw_build.specs.Grown.{build_in, layers_in}
use Rattle.hnsw_build.specs.Wanted.{change_in}
use Rattle.hnsw_build.proofs.Ranges.{map_ones_more}
use Rattle.hnsw_build.proofs.LayersFacts.{upper_len, upper_held_is, upper_row_is}
use Rattle.hnsw_build.proofs.batch.upper_changes.Goals as goal

pub bounds-batch-layer : goal.bounds-batch-layer
bounds-batch-layer g c =
    let many = upper_len c.args.batch.now.layers.now in
    let top = c.top-layer-end.ensures.value in
    let at = c.loop-layer-test.true in
    let low = c.loop-layer.auto.layer in
    omega (arith, many, top, at, low)

pub layer_change-requires-clause-held : goal.layer_change-requires-clause-held
layer_change-requires-clause-held g c κs within =
    let top = c.top-layer-end.ensures.value in
    let at = c.loop-layer-test.true in
    λ u. ap (λ (h : ℕ → Bool). h u) (upper_held_is c.args.batch.now.layers.now c.loop-layer.layer c.loop-layer.auto.layer (omega (arith, top, at)) c.index-batch-layer.result)

pub layer_change-requires-clause-old : goal.layer_change-requires-clause-old
layer_change-requires-clause-old g c κs within =
    let top = c.top-layer-end.ensures.value in
    let at = c.loop-layer-test.true in
    λ u. ap (λ (r : ℕ → List ℕ). r u) (upper_row_is c.args.batch.now.layers.now c.loop-layer.layer c.loop-layer.auto.layer (omega (arith, top, at)) c.index-batch-layer.result)

pub loop-layer-preserved : goal.loop-layer-preserved
loop-layer-preserved g c =
    let w = c.args.batch.now.layers.now in
    let f : ℕ → List (ℕ × List ℕ) = change_in (build_in w) (layers_in w) c.args.batch.now.ids.now in
    record {
      changes =
          c.in_ok-push.ensures.items
          ∙ (λ i. c.loop-layer.invariant.changes i ++ c.in_ok-change.ensures.change i ∷ [])
          ∙ sym (map_ones_more f c.loop-layer.layer c.loop-layer.auto.layer);
      serve = c.in_ok-change.ensures.serve;
      workers = c.in_ok-change.ensures.workers ∙ c.loop-layer.invariant.workers;
    }
