use Rattle.std.proofs.Common.{◌∙◌, sym}
use Rattle.vamana_build.specs.Builds.{graph_at}
use Rattle.versions.specs.Course.{course_of}
use Rattle.live_session.proofs.Leading.{after_is}
use Rattle.live_session.proofs.session.settled.Goals as goal

pub of-graph-requires : goal.of-graph-requires
of-graph-requires g c =
    c.graph.ensures
    ∙ (λ i. graph_at (c.requires.points i) (c.requires.settings i) (sym c.batch.ensures.value i))
    ∙ sym (after_is (course_of c.args.plan.now) c.batch.result)
