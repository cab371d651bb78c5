use Rattle.std.proofs.Common.{set}
use Rattle.std.proofs.lemmas.List.Elements.{All-set}
use Rattle.steal_pool.specs.Work.{scratch_of}
use Rattle.steal_pool.proofs.Progress.{serve_front, serve_again}
use Rattle.steal_pool.proofs.rounds.Rounds.run_round.Goals as goal

pub returns-in-Serial-clause-serve : goal.returns-in-Serial-clause-serve
returns-in-Serial-clause-serve g c =
    let serves = g.W.Work.serves c.args.work.now in
    let first = c.split_at_mut-first.result.0.now in
    let others = c.split_at_mut-first.result.1.now in
    let is = c.split_at_mut-first.ensures.value in
    serve_again serves c.args.posts.now first others is c.requires.serve (set first 0 _)
    (All-set (λ p. serves (scratch_of p)) first 0 _ c.run_all.ensures.serves (serve_front serves c.args.posts.now first others is c.requires.serve))

pub returns-in-Shares-clause-serve : goal.returns-in-Shares-clause-serve
returns-in-Shares-clause-serve g c = serve_again (g.W.Work.serves c.args.work.now) c.args.posts.now c.split_at_mut-first.result.0.now c.split_at_mut-first.result.1.now c.split_at_mut-first.ensures.value c.requires.serve c.run_shares.new.posts c.run_shares.ensures.serve

pub returns-in-Stealing-clause-serve : goal.returns-in-Stealing-clause-serve
returns-in-Stealing-clause-serve g c = serve_again (g.W.Work.serves c.args.work.now) c.args.posts.now c.split_at_mut-first.result.0.now c.split_at_mut-first.result.1.now c.split_at_mut-first.ensures.value c.requires.serve c.run_stolen.new.posts c.run_stolen.ensures.serve
