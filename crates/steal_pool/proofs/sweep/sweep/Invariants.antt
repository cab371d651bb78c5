use Rattle.std.proofs.Common.{◌<◌, ℕ}
use Rattle.steal_table.specs.Steps.{AllBack, HasEntryOf}
use Rattle.steal_pool.specs.Worker.{Ready}
use Rattle.steal_pool.proofs.sweep.sweep.Given as goal

abbrev pub invariant-loop-task : goal.invariant-loop-task
invariant-loop-task g l = record {
  ready : Ready l.board (g.W.Work.want l.work) l.own;
  back : AllBack l.own.view;
  got : (t : ℕ) → t < l.task → HasEntryOf l.own.view t;
  serves : g.W.Work.serves l.work l.scratch;
}
