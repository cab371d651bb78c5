use Rattle.std.proofs.Common.{◌≡◌, length}
use Rattle.versions.specs.Course.{course_of}
use Rattle.live_session.specs.Askers.{AsksIn}
use Rattle.live_session.proofs.rest.ask_all_last.Given as goal

abbrev pub invariant-loop-place : goal.invariant-loop-place
invariant-loop-place l = record {
  asks : AsksIn (course_of l.graph.plan.now) l.asking l.graph.batch l.caller l.seat l.row;
  at : length l.row.answers ≡ l.place;
  size : l.row.size ≡ l.fn.row.size;
  first : l.seat.first ≡ l.fn.seat.first;
}
