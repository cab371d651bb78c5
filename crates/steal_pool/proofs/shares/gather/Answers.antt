use Rattle.std.proofs.Common.{◌≡◌, ◌<◌, ℕ, List, map, take, drop, length, sym, ap, ◌∙◌, subst, arith, IsSomeAnd, Option, Vec, Global}
use Rattle.steal_pool.specs.Shares.{share_start, IsShare, HasDone}
use Rattle.steal_pool.proofs.Progress.{gathered, gathered_all, from_set, serve_set}
use Rattle.steal_pool.proofs.shares.gather.Goals as goal

pub loop-post-preserved : goal.loop-post-preserved
loop-post-preserved g c =
    let i = c.loop-post.invariant in
    let want : List (List ℕ) = g.W.Work.want c.args.work.now in
    let w : ℕ = length c.args.posts.now in
    let at : ℕ = c.loop-post.post-index in
    let lt : at < length c.loop-post.posts = omega (arith, c.loop-post-test.true, c.loop-post.auto.posts) in
    let share = subst (λ (o : Option (Vec (Vec ℕ Global) Global)). IsSomeAnd o (λ v. IsShare (length want) w at v.items × (map (λ y. y.items) v.items ≡ take (length v.items) (drop (share_start (length want) w at) want))))
    (sym c.in-Some.ensures.value) (i.done at c.post-item.result (omega arith) lt) in
    record {
      blocks = ap (λ (l : List (Vec ℕ Global)). map (λ y. y.items) l) c.take_over.ensures.items
          ∙ gathered want w at c.loop-post.blocks.items c.in-Some.share.items i.blocks share.0 share.1;
      room = omega (arith, i.room, c.take_over.ensures.capacity);
      done = from_set (HasDone want w) c.loop-post.posts at _ i.done;
      serve = serve_set (g.W.Work.serves c.args.work.now) c.loop-post.posts at _ (i.serve at c.post-item.result lt) i.serve;
    }

pub returns-clause-blocks : goal.returns-clause-blocks
returns-clause-blocks g c =
    gathered_all (g.W.Work.want c.args.work.now) (length c.args.posts.now) c.loop-post.post-index c.loop-post.blocks.items c.requires.workers (omega (arith, c.loop-post-test.false, c.loop-post.auto.posts)) c.loop-post.invariant.blocks
