use Rattle.std.proofs.Common.{◌≡◌, ◌∙◌, true, cond, sym, ap, List, ℕ}
use Rattle.ann_defs.specs.Graph.{has, row_in}
use Rattle.ann_defs.specs.BatchInsert.{new_row_of}
use Rattle.batch_insert.specs.Padded.{row_by_id}
use Rattle.vamana_build.specs.Builds.{build_by}
use Rattle.vamana_build.proofs.Plans.{start_below}
use Rattle.vamana_build.proofs.NewRowFacts.{fresh_is}
use Rattle.vamana_build.proofs.settled.laid_row.Goals as goal

pub returns-then-holds : goal.returns-then-holds
returns-then-holds c =
    let w = c.args.rows.now in
    let b = build_by w.plan.now.points.now.vectors w.plan.now.settings w.alpha in
    let at : has w.batch.now c.args.id ≡ true = ap (λ (ids : List ℕ). has ids c.args.id) (sym c.requires.ids) ∙ sym c.holds.ensures ∙ c.if-holds.true in
    c.row.ensures
    ∙ ap (λ (ids : List ℕ). row_by_id ids c.args.fresh.now.blocks.now c.args.id) c.requires.ids
    ∙ fresh_is b (start_below w.plan.now) w.graph.now.rows w.good w.batch.now w.ascend w.batch_fits c.args.fresh.now.blocks.now c.requires.blocks c.args.id at
    ∙ sym (ap (λ t. cond t (new_row_of b w.graph.now.rows c.args.id) (row_in w.graph.now.rows c.args.id)) at)
