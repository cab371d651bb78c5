use Rattle.std.proofs.Common.{◌≡◌, ◌∙◌, ◌<◌, ℕ, List, sym, ap, subst, length}
use Rattle.std.specs.Prelude.{IfOk, nat_lt}
use Rattle.std.specs.List.{range_with_len}
use Rattle.std.proofs.lemmas.Bool.{ltb-true}
use Rattle.ann_defs.specs.Graph.{has, row_in}
use Rattle.ann_defs.specs.BatchInsert.{new_row_of, merged_row_of, row_then}
use Rattle.batch_insert.specs.Batch.{IsBatch, laid_over}
use Rattle.batch_insert.specs.Changes.{differing}
use Rattle.batch_insert.specs.Padded.{row_by_id}
use Rattle.vamana_build.specs.Builds.{build_by}
use Rattle.vamana_build.specs.Settled.{are_settled, laid_count}
use Rattle.vamana_build.proofs.Plans.{start_below}
use Rattle.vamana_build.proofs.NewRowFacts.{fresh_is, batch_fits, changed_right}
use Rattle.vamana_build.proofs.SettledRows.{laid_settled, laid_same}
use Rattle.vamana_build.proofs.batch.merges_changed.Goals as goal

pub changed_rows-requires-clause-batch : goal.changed_rows-requires-clause-batch
changed_rows-requires-clause-batch g c κs within =
    let w = c.args.rows.now in
    let b = build_by w.plan.now.points.now.vectors w.plan.now.settings w.alpha in
    let blocks = c.args.fresh.now.blocks.now in
    subst (λ (ids : List ℕ). IsBatch (length w.plan.now.points.now.vectors) w.plan.now.settings.degree (λ u. nat_lt u (length w.graph.now.rows)) (row_in w.graph.now.rows) (has ids) (row_by_id ids blocks) w.batch.now) (sym c.requires.ids)
    (batch_fits b (start_below w.plan.now) w.graph.now.rows w.good w.batch.now w.ascend w.batch_fits blocks c.requires.blocks)

pub changed_rows-requires-clause-known : goal.changed_rows-requires-clause-known
changed_rows-requires-clause-known g c κs within =
    let w = c.args.rows.now in
    let points = w.plan.now.points.now.vectors in
    let s = w.plan.now.settings in
    let b = build_by points s w.alpha in
    let rows = w.graph.now.rows in
    let batch = w.batch.now in
    let counts = c.args.counts.now in
    let blocks = c.args.fresh.now.blocks.now in
    λ u h.
    let at : u < length points = subst (λ m. u < m) w.good.count (ltb-true u (length rows) h) in
    let same : laid_over (row_in rows) (has c.args.fresh.now.ids.now) (row_by_id c.args.fresh.now.ids.now blocks) u ≡ laid_over (row_in rows) (has batch) (new_row_of b rows) u =
    ap (λ (ids : List ℕ). laid_over (row_in rows) (has ids) (row_by_id ids blocks) u) c.requires.ids
    ∙ laid_same (row_in rows) (row_by_id batch blocks) (new_row_of b rows) (has batch) (fresh_is b (start_below w.plan.now) rows w.good batch w.ascend w.batch_fits blocks c.requires.blocks) u in
    ap (λ (row : List ℕ). are_settled b u row (laid_count batch counts u row)) same ∙ laid_settled b rows batch counts c.requires.settled u at

pub returns-clause-rows : goal.returns-clause-rows
returns-clause-rows g c =
    let w = c.args.rows.now in
    let b = build_by w.plan.now.points.now.vectors w.plan.now.settings w.alpha in
    let rows = w.graph.now.rows in
    let n = length w.plan.now.points.now.vectors in
    let blocks = c.args.fresh.now.blocks.now in
    subst (λ (es : List (ℕ × List ℕ)). IfOk c.changed_rows.result (λ (x : List (ℕ × List ℕ)). x ≡ es))
    (ap (λ (ids : List ℕ). differing (row_in rows) (row_then n (row_in rows) (row_by_id ids blocks) (has ids) (merged_row_of b)) (range_with_len 0 n)) c.requires.ids
    ∙ changed_right b (start_below w.plan.now) rows w.good w.batch.now w.ascend w.batch_fits blocks c.requires.blocks)
    c.changed_rows.ensures.rows
