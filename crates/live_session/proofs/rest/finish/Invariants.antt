use Rattle.std.proofs.Common.{◌≡◌, length}
use Rattle.versions.specs.Course.{course_of}
use Rattle.live_session.specs.Asked.{IsRow}
use Rattle.live_session.specs.Askers.{IsSeat}
use Rattle.live_session.proofs.rest.finish.Given as goal

abbrev pub invariant-loop-place : goal.invariant-loop-place
invariant-loop-place g l = record {
  seat : IsSeat (course_of l.graph.plan.now) l.asking l.seat;
  row : IsRow (course_of l.graph.plan.now) l.asking l.fn.seat.first 1 l.graph.batch l.row;
  at : length l.row.answers ≡ l.place;
  size : l.row.size ≡ l.fn.row.size;
  first : l.seat.first ≡ l.fn.seat.first;
}
