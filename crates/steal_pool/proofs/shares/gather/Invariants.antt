use Rattle.std.proofs.Common.{◌≡◌, ◌≤◌, map, take, length, vec_capacity}
use Rattle.steal_pool.specs.Shares.{share_start, HasDone, EachFrom}
use Rattle.steal_pool.specs.Work.{AllServe}
use Rattle.steal_pool.proofs.shares.gather.Given as goal

abbrev pub invariant-loop-post : goal.invariant-loop-post
invariant-loop-post g l = record {
  blocks : map (λ y. y.items) l.blocks.items ≡ take (share_start (length (g.W.Work.want l.work)) (length l.fn.posts) l.post-index) (g.W.Work.want l.work);
  room : length (g.W.Work.want l.work) ≤ vec_capacity l.blocks;
  done : EachFrom l.post-index (HasDone (g.W.Work.want l.work) (length l.fn.posts)) l.posts;
  serve : AllServe (g.W.Work.serves l.work) l.posts;
}
