use Rattle.std.proofs.Common.{◌≡◌, ◌<◌, ℕ}
use Rattle.steal_table.specs.Rule.{CameBack}
use Rattle.steal_pool.specs.Shares.{EachFrom}
use Rattle.steal_pool.specs.Work.{AllServe}
use Rattle.steal_pool.specs.Worker.{Ready, HasPass}
use Rattle.steal_pool.proofs.sweep.join_all.Given as goal

abbrev pub invariant-loop-worker : goal.invariant-loop-worker
invariant-loop-worker g l = record {
  own : Ready l.board (g.W.Work.want l.work) l.own;
  number : l.own.view.number ≡ l.board.size.workers;
  size : l.own.view.size ≡ l.board.size;
  back : (k : ℕ) → k < l.worker → CameBack l.own.view k;
  ready : EachFrom l.worker (HasPass l.board (g.W.Work.want l.work)) l.posts;
  serve : AllServe (g.W.Work.serves l.work) l.posts;
}
