use Rattle.std.proofs.Common.{◌≡◌, ◌∙◌, refl, sym, ap, subst}
use Rattle.std.specs.List.{All}
use Rattle.std.proofs.lemmas.List.Elements.{All-replicate}
use Rattle.vamana_build.specs.Builds.{graph_at}
use Rattle.vamana_build.specs.Building.{Building}
use Rattle.versions.specs.Course.{course_of}
use Rattle.versions.specs.Standing.{Standing, starting}
use Rattle.live_session.proofs.Leading.{after_is}
use Rattle.live_tests.proofs.stepping.opened.Goals as goal

pub share-requires-clause-first : goal.share-requires-clause-first
share-requires-clause-first g c =
    c.in_ok-first.ensures.graph
    ∙ ap (λ (b : Building). graph_at b.points b.settings 1) c.in_ok-build.ensures
    ∙ sym (after_is (course_of c.args.plan.now) 1)

pub returns-clause-callers : goal.returns-clause-callers
returns-clause-callers g c =
    let P = λ (x : Standing). x ≡ starting (course_of c.args.plan.now) in
    subst (All P) (sym c.in_ok-publisher.ensures.callers) (All-replicate P c.args.callers (starting (course_of c.args.plan.now)) refl)
