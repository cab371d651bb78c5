use Rattle.std.proofs.Common.{◌∙◌, ◌≤◌, sym, ap, subst}
use Rattle.vamana_build.specs.Builds.{batches_of, graph_at}
use Rattle.vamana_build.specs.Building.{Building}
use Rattle.versions.specs.Course.{course_of}
use Rattle.live_session.proofs.Leading.{after_is, total_is}
use Rattle.live_session.proofs.session.build_beside_callers.Goals as goal

pub share-requires-clause-first : goal.share-requires-clause-first
share-requires-clause-first g c =
    c.in_ok-first.ensures.graph
    ∙ ap (λ (b : Building). graph_at b.points b.settings 1) c.in_ok-builder.ensures
    ∙ sym (after_is (course_of c.args.plan.now) 1)

pub with_callers-settled-requires-clause-total : goal.with_callers-settled-requires-clause-total
with_callers-settled-requires-clause-total g c κs within =
    subst (λ n. 1 ≤ n)
    (ap (λ (b : Building). batches_of b.points b.settings) c.in_ok-builder.ensures ∙ sym (total_is (course_of c.args.plan.now)))
    c.in_ok-first.ensures.total

pub into_index-requires : goal.into_index-requires
into_index-requires g c =
    let e = c.in_ok-live.ensures in
    e.all ∙ total_is (course_of c.args.plan.now) ∙ (λ i. batches_of (sym e.points i) (sym e.settings i))
