use Rattle.live_session.proofs.Leading.{step_leads}
use Rattle.live_tests.proofs.stepping.publish_next.Goals as goal

pub publish-requires : goal.publish-requires
publish-requires g c = step_leads c.args.plan.now 1 c.args.build.now c.step.new.self c.args.publisher.now _ c.in-Some.change c.requires c.in-Some.is c.in_ok-change.ensures.some
