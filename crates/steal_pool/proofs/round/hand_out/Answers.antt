use Rattle.std.proofs.Common.{◌≡◌, ◌<◌, ◌+◌, ◌-◌, ℕ, List, length, subst, arith}
use Rattle.steal_table.specs.Opened.{AllFresh}
use Rattle.steal_table.specs.Passes.{BoardId}
use Rattle.steal_pool.specs.Shares.{EachFrom}
use Rattle.steal_pool.specs.Worker.{HasPass}
use Rattle.steal_pool.proofs.Progress.{serve_set}
use Rattle.steal_pool.proofs.StolenRounds.{fresh_pop, popped_len, from_set_down}
use Rattle.steal_pool.proofs.round.hand_out.Goals as goal

pub loop-taken-preserved : goal.loop-taken-preserved
loop-taken-preserved g c =
    let i = c.loop-taken.invariant in
    let board : BoardId = c.args.board.now in
    let want : List (List ℕ) = g.W.Work.want c.args.work.now in
    let w : ℕ = length c.args.posts.now in
    let taken : ℕ = c.loop-taken.taken in
    let n : ℕ = w - (taken + 1) in
    let at : ℕ = w - 1 - taken in
    let left : w - taken ≡ n + 1 = omega (arith, c.loop-taken-test.true) in
    let place : at ≡ n = omega (arith, c.loop-taken-test.true) in
    let lt : at < length c.loop-taken.posts = omega (arith, c.loop-taken-test.true, c.loop-taken.auto.posts) in
    let passes : AllFresh board (n + 1) c.loop-taken.passes.items = subst (λ (k : ℕ). AllFresh board k c.loop-taken.passes.items) left i.passes in
    let a = c.pop.ensures.variant.1 (omega (arith, left, i.passes.0, c.loop-taken.passes.ok.0)) in
    let b = c.pop-in-loop-taken.ensures.variant.1 (omega (arith, left, i.deques, c.loop-taken.deques.ok.0)) in
    let popped = fresh_pop board want n c.loop-taken.passes.items c.pop.new.self.items c.pop.result passes c.pop.ensures.items a in
    record {
      passes = popped.0;
      deques = omega (arith, left, i.deques, popped_len c.loop-taken.deques.items c.pop-in-loop-taken.new.self.items c.pop-in-loop-taken.result c.pop-in-loop-taken.ensures.items b);
      ready = from_set_down (HasPass board want) c.loop-taken.posts n at _ place lt (b, popped.1) (subst (λ (k : ℕ). EachFrom k (HasPass board want) c.loop-taken.posts) left i.ready);
      serve = serve_set (g.W.Work.serves c.args.work.now) c.loop-taken.posts at _ (i.serve at c.index-posts-worker.result lt) i.serve;
    }
