use Rattle.std.proofs.Common.{◌≡◌, ◌<◌, ◌≤◌, ◌+◌, ℕ, List, length, ap, ◌∙◌, subst, arith, All, IsSomeAnd, Option, Vec, Global}
use Rattle.steal_pool.specs.Shares.{share_start, IsShare}
use Rattle.steal_pool.proofs.Progress.{starts_within}
use Rattle.steal_pool.proofs.shares.run_post.Goals as goal

fits : (m w i from : ℕ) (xs ys : List (Vec ℕ Global)) → i < w → from ≡ share_start m w i → IsShare m w i xs → length ys ≡ length xs → from + length ys ≤ m
fits m w i from xs ys lt a share len = let within = starts_within m w (i + 1) (omega arith) in omega (arith, within, a, share, len)

pub run_tasks-requires-clause-tasks : goal.run_tasks-requires-clause-tasks
run_tasks-requires-clause-tasks g c κs within =
    let m : ℕ = length (g.W.Work.want c.args.work.now) in
    let wide : ℕ = g.W.Work.wide c.args.work.now in
    let w : ℕ = c.args.workers in
    let i : ℕ = c.args.worker in
    let from = c.first_task-from.ensures.start ∙ ap (λ (k : ℕ). share_start k w i) c.tasks.ensures in
    let share = subst (λ (o : Option (Vec (Vec ℕ Global) Global)). IsSomeAnd o (λ v. IsShare m w i v.items × All (λ y. length y.items ≡ wide) v.items)) c.in-Some.is c.requires.share in
    fits m w i c.first_task-from.result c.in-Some.share.items c.as_mut_slice.result.now c.requires.worker.0 from share.0 (ap length c.as_mut_slice.ensures.value)
