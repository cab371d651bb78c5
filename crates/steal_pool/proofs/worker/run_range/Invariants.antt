use Rattle.std.proofs.Common.{◌≡◌, ◌≤◌, ◌-◌, length}
use Rattle.steal_pool.specs.Worker.{Ready}
use Rattle.steal_pool.proofs.worker.run_range.Given as goal

abbrev pub invariant-loop-upper : goal.invariant-loop-upper
invariant-loop-upper g l = record {
  ready : Ready l.board (g.W.Work.want l.work) l.pass;
  number : l.pass.view.number ≡ l.fn.pass.view.number;
  tasks : l.left.to ≤ length (g.W.Work.want l.work);
  serves : g.W.Work.serves l.work l.scratch;
}

abbrev pub decreases-loop-upper : goal.decreases-loop-upper
decreases-loop-upper g l = l.left.to - l.left.from

abbrev pub invariant-loop-task : goal.invariant-loop-task
invariant-loop-task g l = record {
  ready : Ready l.board (g.W.Work.want l.work) l.pass;
  number : l.pass.view.number ≡ l.fn.pass.view.number;
  serves : g.W.Work.serves l.work l.scratch;
}
