use Rattle.std.proofs.Common.{length}
use Rattle.steal_pool.specs.Shares.{HasShare, EachBelow}
use Rattle.steal_pool.specs.Work.{AllServe}
use Rattle.steal_pool.proofs.shares.hand_out.Given as goal

abbrev pub invariant-loop-worker : goal.invariant-loop-worker
invariant-loop-worker g l = record {
  shares : EachBelow l.worker (HasShare (length (g.W.Work.want l.work)) (g.W.Work.wide l.work) (length l.fn.posts)) l.posts;
  serve : AllServe (g.W.Work.serves l.work) l.posts;
}
