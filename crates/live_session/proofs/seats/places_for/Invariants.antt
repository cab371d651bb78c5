use Rattle.std.proofs.Common.{◌≡◌, length}
use Rattle.std.specs.List.{All}
use Rattle.versions.specs.Course.{course_of}
use Rattle.live_session.specs.Askers.{ArePlaces, IsPlace}
use Rattle.live_session.proofs.seats.places_for.Given as goal

abbrev pub invariant-loop-first : goal.invariant-loop-first
invariant-loop-first l = record {
  count : length l.places.items ≡ l.first;
  places : All (IsPlace (course_of l.plan) l.asking) l.places.items;
  order : ArePlaces l.places.items;
}
