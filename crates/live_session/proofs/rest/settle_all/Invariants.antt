use Rattle.std.proofs.Common.{◌≡◌, ◌+◌, length}
use Rattle.std.specs.List.{All}
use Rattle.versions.specs.Course.{course_of}
use Rattle.live_session.specs.Asked.{AreWhole}
use Rattle.live_session.specs.Askers.{AreNumbered, Stands}
use Rattle.live_session.proofs.rest.settle_all.Given as goal

abbrev pub invariant-loop : goal.invariant-loop
invariant-loop g l = record {
  stand : All (Stands (course_of l.graph.plan.now) l.asking) l.askers.items;
  order : AreNumbered l.asking.callers l.askers.items;
  count : length l.askers.items + l.counter ≡ l.asking.callers;
  publisher : l.publisher ≡ l.fn.publisher;
  live : AreWhole (course_of l.graph.plan.now) l.asking 1 l.graph.batch l.live.items;
  last : AreWhole (course_of l.graph.plan.now) l.asking l.graph.batch l.graph.batch l.last.items;
  live_count : length l.live.items ≡ l.counter;
  last_count : length l.last.items ≡ l.counter;
}
