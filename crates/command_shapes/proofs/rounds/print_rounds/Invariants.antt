use Rattle.std.proofs.Common.{◌≡◌, ◌≤◌, ◌-◌, None, length}
use Rattle.std.specs.Prelude.{take}
use Rattle.steal_pool.specs.Work.{AllServe}
use Rattle.command_shapes.specs.Writing.{Printed}
use Rattle.command_shapes.specs.AnswerLines.{lines_from}
use Rattle.command_shapes.specs.Rooms.{AreFor}
use Rattle.command_shapes.proofs.rounds.print_rounds.Given as goal

abbrev pub invariant-loop-from : goal.invariant-loop-from
invariant-loop-from g l = record {
  within : l.from ≤ length (g.A.Answering.answers l.initial.batch);
  printed : Printed (lines_from 0 (take l.from (g.A.Answering.answers l.initial.batch))) (g.O.Out.got l.initial.out) (g.O.Out.got l.out) None;
  posts : length l.posts ≡ g.P.Rounds.count l.pool;
  serve : AllServe (g.A.Answering.serves l.initial.batch) l.posts;
  rooms : AreFor (g.A.Answering.longest l.initial.batch) l.rooms;
}

abbrev pub decreases-loop-from : goal.decreases-loop-from
decreases-loop-from g l = l.count - l.from
