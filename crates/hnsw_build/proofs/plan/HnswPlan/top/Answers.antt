use Rattle.std.proofs.Common.{◌≡◌, ◌∙◌, ◌<◌, ◌≤◌, ℕ, List, length, get_or, sym, ap, subst, arith}
use Rattle.std.proofs.lemmas.List.{get_or_default}
use Rattle.hnsw_build.specs.Layering.{level_in}
use Rattle.hnsw_build.specs.HnswBuilds.{order_of, start_of}
use Rattle.hnsw_build.proofs.PlanFacts.{plan_layered, plan_low}
use Rattle.hnsw_build.proofs.plan.HnswPlan.top.Goals as goal

pub returns-clause-value : goal.returns-clause-value
unfolding order_of start_of
returns-clause-value c =
    let plan = c.args.self.now in
    let levels = plan.levels.items in
    let some : 0 < length plan.order.items = omega (arith, plan.whole, plan.count.0) in
    let first : c.index.result.now ≡ start_of plan.points.now.vectors plan.settings levels =
    c.index.ensures ∙ get_or_default plan.order.items 0 c.index.result.now 0 some ∙ ap (λ (ids : List ℕ). get_or ids 0 0) plan.ordered in
    let is = plan_layered plan in
    let within : c.index.result.now < length levels = subst (λ (u : ℕ). u < length levels) (sym first) (subst (λ (m : ℕ). start_of plan.points.now.vectors plan.settings levels < m) (sym plan.levelled) is.start_below) in
    c.index-2.ensures ∙ get_or_default levels c.index.result.now c.index-2.result.now 0 within ∙ ap (level_in levels) first ∙ is.start_top

pub returns-clause-bound : goal.returns-clause-bound
returns-clause-bound c = subst (λ (t : ℕ). t ≤ 15) (sym (returns-clause-value c)) (plan_low c.args.self.now)
