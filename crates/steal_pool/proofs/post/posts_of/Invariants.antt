use Rattle.std.proofs.Common.{◌≡◌, length}
use Rattle.std.specs.Prelude.{Ok}
use Rattle.steal_pool.specs.Work.{AllServe}
use Rattle.steal_pool.proofs.post.posts_of.Given as goal

abbrev pub invariant-loop : goal.invariant-loop
invariant-loop g l = record {
  count : length l.posts.items ≡ l.counter;
  serve : AllServe (λ s. goal.F-post g l.make (Ok s)) l.posts.items;
}
