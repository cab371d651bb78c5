use Rattle.versions.specs.Course.{course_of}
use Rattle.live_session.specs.Builder.{AreInStep}
use Rattle.live_tests.proofs.stepping.publish_all.Given as goal

abbrev pub invariant-loop : goal.invariant-loop
invariant-loop g l = AreInStep (course_of l.plan) 1 l.build l.publisher
