use Rattle.std.proofs.Common.{◌≡◌}
use Rattle.versions.specs.Course.{course_of}
use Rattle.live_session.specs.Builder.{AreInStep}
use Rattle.live_session.proofs.builder.build_on.Given as goal

abbrev pub invariant-loop : goal.invariant-loop
invariant-loop g l = record {
  step : AreInStep (course_of l.plan) (g.P.Rounds.count l.pool) l.builder l.publisher;
  at : l.builder.batch ≡ l.counter;
}
