use Rattle.std.proofs.Common.{◌≡◌, ◌∙◌, ◌<◌, length, sym, ap, subst, arith}
use Rattle.vamana_build.specs.Builds.{build_by}
use Rattle.vamana_build.specs.Settled.{begins, laid_count}
use Rattle.vamana_build.proofs.Plans.{start_below}
use Rattle.vamana_build.proofs.SettledRows.{laid, new, laid_short, new_short, changed_below, changed_is, settled_none, settled_more, settled_all}
use Rattle.vamana_build.proofs.settled.settle.Goals as goal

pub loop-j-init : goal.loop-j-init
loop-j-init c =
    let w = c.args.rows.now in
    settled_none (build_by w.plan.now.points.now.vectors w.plan.now.settings w.alpha) w.graph.now.rows w.batch.now c.args.changed.now c.requires.changed c.args.counts.now c.requires.settled

pub laid_row-laid-requires-clause-id : goal.laid_row-laid-requires-clause-id
laid_row-laid-requires-clause-id c =
    let w = c.args.rows.now in
    subst (λ m. c.id-id.result < m) (sym w.good.count)
    (subst (λ u. u < length w.plan.now.points.now.vectors) (sym c.id-id.ensures)
    (changed_below (build_by w.plan.now.points.now.vectors w.plan.now.settings w.alpha) w.graph.now.rows w.batch.now c.args.changed.now c.requires.changed c.loop-j.j (omega arith)))

pub count_of-before-requires-clause-id : goal.count_of-before-requires-clause-id
count_of-before-requires-clause-id c =
    let w = c.args.rows.now in
    subst (λ m. c.id-id.result < m) (sym c.loop-j.invariant.whole)
    (subst (λ u. u < length w.plan.now.points.now.vectors) (sym c.id-id.ensures)
    (changed_below (build_by w.plan.now.points.now.vectors w.plan.now.settings w.alpha) w.graph.now.rows w.batch.now c.args.changed.now c.requires.changed c.loop-j.j (omega arith)))

pub bounds-counts-id : goal.bounds-counts-id
bounds-counts-id c =
    let w = c.args.rows.now in
    subst (λ m. c.id-id.result < m) (sym c.loop-j.invariant.whole)
    (subst (λ u. u < length w.plan.now.points.now.vectors) (sym c.id-id.ensures)
    (changed_below (build_by w.plan.now.points.now.vectors w.plan.now.settings w.alpha) w.graph.now.rows w.batch.now c.args.changed.now c.requires.changed c.loop-j.j (omega arith)))

pub count_after-requires-clause-row : goal.count_after-requires-clause-row
count_after-requires-clause-row c =
    let w = c.args.rows.now in
    let points = w.plan.now.points.now.vectors in
    let b = build_by points w.plan.now.settings w.alpha in
    let inside = changed_below b w.graph.now.rows w.batch.now c.args.changed.now c.requires.changed c.loop-j.j (omega arith) in
    let short = new_short b w.graph.now.rows w.batch.now (start_below w.plan.now) w.good _ inside in
    let long : length c.row-row.result.now ≡ _ = ap length (c.row-row.ensures ∙ changed_is b w.graph.now.rows w.batch.now c.args.changed.now c.requires.changed c.loop-j.j (omega arith)) in
    let limit = w.plan.now.degree.1 in
    omega (arith, short, long, limit)

pub count_after-requires-clause-before : goal.count_after-requires-clause-before
count_after-requires-clause-before c =
    let w = c.args.rows.now in
    let points = w.plan.now.points.now.vectors in
    let b = build_by points w.plan.now.settings w.alpha in
    let inside : c.id-id.result < length points = subst (λ u. u < length points) (sym c.id-id.ensures) (changed_below b w.graph.now.rows w.batch.now c.args.changed.now c.requires.changed c.loop-j.j (omega arith)) in
    let short = laid_short b w.graph.now.rows w.batch.now (start_below w.plan.now) w.good c.id-id.result inside in
    let long : length c.laid_row-laid.result.now ≡ _ = ap length c.laid_row-laid.ensures in
    let limit = w.plan.now.degree.1 in
    c.count_of-before.ensures.small (omega (arith, short, long, limit))

pub loop-j-preserved : goal.loop-j-preserved
loop-j-preserved c =
    let w = c.args.rows.now in
    let points = w.plan.now.points.now.vectors in
    let b = build_by points w.plan.now.settings w.alpha in
    let rows = w.graph.now.rows in
    let batch = w.batch.now in
    let id = c.id-id.result in
    let within : c.loop-j.j < length c.args.changed.now = omega arith in
    let row : c.row-row.result.now ≡ new b rows batch id =
    c.row-row.ensures ∙ changed_is b rows batch c.args.changed.now c.requires.changed c.loop-j.j within ∙ ap (new b rows batch) (sym c.id-id.ensures) in
    let lies : c.laid_row-laid.result.now ≡ laid b rows batch id = c.laid_row-laid.ensures in
    let same : begins c.row-row.result.now c.laid_row-laid.result.now ≡ begins (new b rows batch id) (laid b rows batch id) = λ i. begins (row i) (lies i) in
    settled_more b rows batch c.args.changed.now c.requires.changed c.args.counts.now c.loop-j.counts c.loop-j.j id c.count_after.result c.requires.settled within c.id-id.ensures c.loop-j.invariant
    (λ e. c.count_after.ensures.added (same ∙ e) ∙ c.count_of-before.ensures.value ∙ ap (laid_count batch c.loop-j.counts id) lies)
    (λ e. c.count_after.ensures.pruned (same ∙ e) ∙ ap length row)

pub returns : goal.returns
returns c =
    let w = c.args.rows.now in
    record { settled = settled_all (build_by w.plan.now.points.now.vectors w.plan.now.settings w.alpha) w.graph.now.rows w.batch.now c.args.changed.now c.requires.changed c.args.counts.now c.loop-j.counts c.loop-j.j (omega arith) c.loop-j.invariant }
