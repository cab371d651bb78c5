use Rattle.std.proofs.Common.{◌≤◌, ◌+◌, ◌∙◌, ap, sym, subst, ℕ, List, length, arith}
use Rattle.std.specs.Prelude.{slice_index}
use Rattle.std.specs.List.{All}
use Rattle.std.proofs.lemmas.List.{length-map}
use Rattle.ann_defs.specs.BatchInsert.{new_row_of}
use Rattle.batch_insert.specs.Padded.{padded}
use Rattle.batch_insert.proofs.Padding.{blocks_whole}
use Rattle.vamana_build.specs.Builds.{build_by}
use Rattle.vamana_build.proofs.NewRowFacts.{new_row_short}
use Rattle.vamana_build.proofs.batch.rows_changed.Goals as goal

pub invariant_of-fresh : goal.invariant_of-fresh
invariant_of-fresh g c =
    let w = c.args.rows.now in
    let b = build_by w.plan.now.points.now.vectors w.plan.now.settings w.alpha in
    let rows = w.graph.now.rows in
    let right = c.in_ok-blocks.ensures.blocks in
    record {
      ascend = w.ascend;
      count = ap (λ (bs : List (List ℕ)). length bs) right ∙ length-map w.batch.now (λ p. padded (b.degree + 1) (new_row_of b rows p));
      few = let few = w.few in let limit = w.plan.now.count.1 in omega (arith, few, limit);
      whole = subst (All (λ block. slice_index block 0 + 1 ≤ length block)) (sym right) (blocks_whole (new_row_of b rows) b.degree w.batch.now w.ascend (λ u _. new_row_short b rows u));
    }
