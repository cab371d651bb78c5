use Rattle.std.proofs.Common.{◌≡◌, ◌<◌, ◌∙◌, ℕ, List, Option, IsSomeAnd, length, ap, sym, subst, arith}
use Rattle.steal_table.specs.Passes.{BoardId, PassState}
use Rattle.steal_pool.specs.Worker.{Ready, HasPass}
use Rattle.steal_pool.proofs.Progress.{from_set, serve_set}
use Rattle.steal_pool.proofs.StolenRounds.{joined_ready, joined_back}
use Rattle.steal_pool.proofs.sweep.join_all.Goals as goal

pub loop-worker-preserved : goal.loop-worker-preserved
loop-worker-preserved g c =
    let i = c.loop-worker.invariant in
    let board : BoardId = c.args.board.now in
    let want : List (List ℕ) = g.W.Work.want c.args.work.now in
    let at : ℕ = c.loop-worker.worker in
    let lt : at < length c.loop-worker.posts = omega (arith, c.loop-worker-test.true, c.loop-worker.auto.posts) in
    let pass = subst (λ (o : Option PassState). IsSomeAnd o (λ k. Ready board want k × (k.view.number ≡ at))) (sym c.take.ensures.value ∙ c.in-Some.is) (i.ready at c.index-posts-worker.result (omega arith) lt).1 in
    record {
      own = joined_ready board want c.loop-worker.own c.in-Some.pass c.join.new.own i.own pass.0 c.join.ensures.joined;
      number = ap (λ (z : PassState). z.view.number) c.join.ensures.joined ∙ i.number;
      size = ap (λ (z : PassState). z.view.size) c.join.ensures.joined ∙ i.size;
      back = joined_back c.loop-worker.own c.in-Some.pass c.join.new.own at c.join.ensures.joined pass.1 i.back;
      ready = from_set (HasPass board want) c.loop-worker.posts at _ i.ready;
      serve = serve_set (g.W.Work.serves c.args.work.now) c.loop-worker.posts at _ (i.serve at c.index-posts-worker.result lt) i.serve;
    }
