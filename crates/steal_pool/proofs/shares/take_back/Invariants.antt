use Rattle.steal_pool.specs.Work.{AllServe}
use Rattle.steal_pool.proofs.shares.take_back.Given as goal

abbrev pub invariant-loop-post : goal.invariant-loop-post
invariant-loop-post g l = AllServe (g.W.Work.serves l._work) l.posts
