use Rattle.std.proofs.Common.{◌≡◌, ◌+◌, ◌≤◌, ◌∙◌, ℕ, List, length, sym, ap, subst, arith, IfOk}
use Rattle.std.specs.Prelude.{slice_index}
use Rattle.std.specs.List.{All}
use Rattle.std.specs.Ordering.{nat_cmp}
use Rattle.std.proofs.lemmas.List.{length-map}
use Rattle.ann_defs.specs.Ordered.{Ascends}
use Rattle.ann_defs.specs.Graph.{has}
use Rattle.batch_insert.specs.Batch.{IsBatch}
use Rattle.batch_insert.specs.Padded.{padded, row_by_id}
use Rattle.batch_insert.proofs.Padding.{blocks_whole}
use Rattle.batch_insert.proofs.Ascending.{Rises-filter, rises, ascends}
use Rattle.hnsw_build.specs.Layering.{is_in}
use Rattle.hnsw_build.specs.LayeredInsert.{new_row_in}
use Rattle.hnsw_build.specs.Grown.{build_in, layers_in}
use Rattle.hnsw_build.specs.Wanted.{batch_in}
use Rattle.hnsw_build.proofs.PlanFacts.{plan_layered}
use Rattle.hnsw_build.proofs.PointRows.{row_short}
use Rattle.hnsw_build.proofs.LayersFacts.{good_in}
use Rattle.hnsw_build.proofs.LayerBatch.{few_pass, layer_batch, layer_changed}
use Rattle.hnsw_build.proofs.layer_change.layer_change.Goals as goal

pub invariant_of-fresh : goal.invariant_of-fresh
invariant_of-fresh g c =
    let w = c.args.batch.now.layers.now in
    let b = build_in w in
    let layers = layers_in w in
    let l = c.args.layer in
    let ids = batch_in b c.args.batch.now.ids.now l in
    let is : c.as_slice.result.now ≡ ids = c.as_slice.ensures.value ∙ c.in_ok-ids.ensures in
    let up : Ascends ids = ascends ids (Rises-filter nat_cmp (is_in b.levels l) c.args.batch.now.ids.now (rises c.args.batch.now.ids.now c.args.batch.now.ascend)) in
    let right = c.in_ok-blocks.ensures in
    record {
      ascend = subst Ascends (sym is) up;
      count = ap (λ (bs : List (List ℕ)). length bs) right ∙ length-map ids (λ p. padded (b.degree + 1) (new_row_in b layers l p)) ∙ ap (λ (xs : List ℕ). length xs) (sym is);
      few =
          let same = ap (λ (xs : List ℕ). length xs) is in
          let pass = few_pass (is_in b.levels l) c.args.batch.now.ids.now in
          let few = c.args.batch.now.few in
          let limit = w.plan.now.count.1 in
          omega (arith, same, pass, few, limit);
      whole = subst (All (λ block. slice_index block 0 + 1 ≤ length block)) (sym right) (blocks_whole (new_row_in b layers l) b.degree ids up (λ u _. row_short b layers u l));
    }

pub changed_rows-requires-clause-batch : goal.changed_rows-requires-clause-batch
changed_rows-requires-clause-batch g c κs within =
    let w = c.args.batch.now.layers.now in
    let b = build_in w in
    let n = length w.plan.now.points.now.vectors in
    let l = c.args.layer in
    let old = c.args.old.now in
    let is : c.as_slice.result.now ≡ batch_in b c.args.batch.now.ids.now l = c.as_slice.ensures.value ∙ c.in_ok-ids.ensures in
    let same : c.as_slice.result.now ≡ c.as_slice-2.result.now = c.as_slice.ensures.value ∙ sym c.as_slice-2.ensures.value in
    subst (λ (ids : List ℕ). IsBatch n c.row_bound.result (g.O.Rows.held old) (g.O.Rows.row_of old) (has c.as_slice.result.now) (row_by_id c.as_slice.result.now c.in_ok-blocks.blocks) ids) same
    (layer_batch b (plan_layered w.plan.now) (layers_in w) (good_in w) l c.requires.layer c.args.batch.now.ids.now c.args.batch.now.ascend c.row_bound.result c.row_bound.ensures.value (g.O.Rows.held old) c.requires.held (g.O.Rows.row_of old) c.requires.old c.as_slice.result.now is c.in_ok-blocks.blocks c.in_ok-blocks.ensures)

pub returns-clause-change : goal.returns-clause-change
returns-clause-change g c =
    let w = c.args.batch.now.layers.now in
    let b = build_in w in
    let l = c.args.layer in
    let old = c.args.old.now in
    let is : c.as_slice.result.now ≡ batch_in b c.args.batch.now.ids.now l = c.as_slice.ensures.value ∙ c.in_ok-ids.ensures in
    subst (λ (es : List (ℕ × List ℕ)). IfOk c.changed_rows.result (λ (x : List (ℕ × List ℕ)). x ≡ es))
    (layer_changed b (plan_layered w.plan.now) (layers_in w) (good_in w) l c.requires.layer c.args.batch.now.ids.now c.args.batch.now.ascend c.row_bound.result c.row_bound.ensures.value (g.O.Rows.held old) c.requires.held (g.O.Rows.row_of old) c.requires.old c.as_slice.result.now is c.in_ok-blocks.blocks c.in_ok-blocks.ensures)
    c.changed_rows.ensures.rows
