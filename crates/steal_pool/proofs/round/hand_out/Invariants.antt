use Rattle.std.proofs.Common.{◌≡◌, ◌-◌, length}
use Rattle.steal_table.specs.Opened.{AllFresh}
use Rattle.steal_pool.specs.Shares.{EachFrom}
use Rattle.steal_pool.specs.Work.{AllServe}
use Rattle.steal_pool.specs.Worker.{HasPass}
use Rattle.steal_pool.proofs.round.hand_out.Given as goal

abbrev pub invariant-loop-taken : goal.invariant-loop-taken
invariant-loop-taken g l = record {
  passes : AllFresh l.board (l.workers - l.taken) l.passes.items;
  deques : length l.deques.items ≡ l.workers - l.taken;
  ready : EachFrom (l.workers - l.taken) (HasPass l.board (g.W.Work.want l.work)) l.posts;
  serve : AllServe (g.W.Work.serves l.work) l.posts;
}
