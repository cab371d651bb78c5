use Rattle.std.proofs.Common.{◌∙◌, ◌<◌, ℕ, List, length, ap, get_or, arith}
use Rattle.std.proofs.lemmas.List.{get_or_default}
use Rattle.hnsw_build.specs.HnswBuilds.{order_of, start_of}
use Rattle.hnsw_build.proofs.plan.HnswPlan.start.Goals as goal

pub returns-clause-value : goal.returns-clause-value
unfolding order_of start_of
returns-clause-value c =
    let plan = c.args.self.now in
    let some : 0 < length plan.order.items = omega (arith, plan.whole, plan.count.0) in
    c.index.ensures ∙ get_or_default plan.order.items 0 c.index.result.now 0 some ∙ ap (λ (ids : List ℕ). get_or ids 0 0) plan.ordered
