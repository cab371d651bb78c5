use Rattle.std.proofs.Common.{◌≡◌}
use Rattle.std.specs.List.{All}
use Rattle.versions.specs.Course.{course_of}
use Rattle.versions.specs.Standing.{starting}
use Rattle.live_tests.specs.Seated.{CanAsk}
use Rattle.live_tests.proofs.seat.seats_for.Given as goal

abbrev pub invariant-loop : goal.invariant-loop
invariant-loop l = record {
  callers : All (λ x. x ≡ starting (course_of l.plan)) l.callers.items;
  seats : All (CanAsk (course_of l.plan) l.beam l.k) l.seats.items;
}
