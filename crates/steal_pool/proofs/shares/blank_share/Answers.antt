use Rattle.std.proofs.Common.{◌≡◌, ◌<◌, ◌+◌, ◌-◌, ℕ, List, length, ap, ◌∙◌, arith, Vec, Global}
use Rattle.std.proofs.lemmas.Result.{IfOk-weaker}
use Rattle.steal_pool.specs.Shares.{share_start, IsShare}
use Rattle.steal_pool.proofs.Progress.{starts_rise}
use Rattle.steal_pool.proofs.shares.blank_share.Goals as goal

share_of : (m w i from to : ℕ) (xs : List (Vec ℕ Global)) → i < w → from ≡ share_start m w i → to ≡ share_start m w (i + 1) → length xs ≡ to - from → IsShare m w i xs
share_of m w i from to xs lt a b len = let rise = starts_rise m w i (omega arith) in omega (arith, rise, a, b, len)

pub returns-clause-share : goal.returns-clause-share
returns-clause-share g c =
    let m : ℕ = length (g.W.Work.want c.args.work.now) in
    let w : ℕ = c.args.workers in
    let i : ℕ = c.args.worker in
    let from = c.first_task-from.ensures.start ∙ ap (λ (k : ℕ). share_start k w i) c.tasks.ensures in
    let to = c.first_task-to.ensures.start ∙ ap (λ (k : ℕ). share_start k w (i + 1)) c.tasks-2.ensures in
    IfOk-weaker c.blank_blocks.result (λ v. length v.items ≡ c.first_task-to.result - c.first_task-from.result) (λ v. IsShare m w i v.items)
    (λ v len. share_of m w i c.first_task-from.result c.first_task-to.result v.items c.requires.0 from to len) c.blank_blocks.ensures.count
