use Rattle.std.proofs.Common.{◌≡◌, arith}
use Rattle.vamana_build.specs.Builds.{batches_of}
use Rattle.versions.specs.Course.{course_of}
use Rattle.live_session.proofs.Leading.{step_leads, total_is}
use Rattle.live_session.proofs.builder.build_on.Goals as goal

pub publish-requires : goal.publish-requires
publish-requires g c =
    step_leads c.args.plan.now _ c.loop.builder c.step.new.self c.loop.publisher _ c.in-Some.change c.loop.invariant.step c.in-Some.is c.in_ok-change.ensures.some

pub returns-clause-all : goal.returns-clause-all
returns-clause-all g c =
    let course = course_of c.args.plan.now in
    let was = c.requires.step in
    let same : batches_of c.args.builder.now.points c.args.builder.now.settings ≡ batches_of course.points course.settings = λ i. batches_of (was.points i) (was.settings i) in
    let all = total_is course in
    let at = c.loop.invariant.at in
    let total = c.total-total.ensures.value in
    let some = c.total-total.ensures.some in
    let end = c.loop.auto.counter-end some in
    let test = c.loop-test.false in
    omega (arith, same, at, total, all, end, test)
