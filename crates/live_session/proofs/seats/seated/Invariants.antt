use Rattle.std.proofs.Common.{◌≡◌, ◌+◌, length}
use Rattle.std.specs.List.{All}
use Rattle.versions.specs.Course.{course_of}
use Rattle.versions.specs.Standing.{starting}
use Rattle.live_session.specs.Askers.{AreNumbered, ArePlaces, IsPlace, Stands}
use Rattle.live_session.proofs.seats.seated.Given as goal

abbrev pub invariant-loop : goal.invariant-loop
invariant-loop l = record {
  callers : All (λ x. x ≡ starting (course_of l.plan)) l.callers.items;
  callers_count : length l.callers.items + l.counter ≡ l.asking.callers;
  places : All (IsPlace (course_of l.plan) l.asking) l.places.items;
  order : ArePlaces l.places.items;
  count : length l.places.items + l.counter ≡ l.asking.callers;
  stand : All (Stands (course_of l.plan) l.asking) l.askers.items;
  numbered : AreNumbered l.asking.callers l.askers.items;
  seated : length l.askers.items ≡ l.counter;
}
