-- What a plan keeps.
use Rattle.std.proofs.Common.{◌≡◌, ◌∙◌, ℕ, suc, ◌+◌, ◌-◌, ◌<◌, ◌≤◌, length, take, drop, sym, ap, subst, arith}
use Rattle.std.specs.List.{All}
use Rattle.ann_defs.specs.BatchInsert.{bound_at, batch_at}
use Rattle.ann_defs.proofs.Order.{All_has}
use Rattle.ann_defs.proofs.Members.{all_from_has}
use Rattle.seeded_order.specs.Order.{base_order}
use Rattle.seeded_order.proofs.Insertions.{base_ids}
use Rattle.hnsw_build.specs.declared.plan.HnswPlan.{HnswPlan}
use Rattle.hnsw_build.specs.Layering.{top_of}
use Rattle.hnsw_build.specs.HnswBuilds.{order_of, start_of, batch_cap, build_of}
use Rattle.hnsw_build.specs.Laws.{IsLayered}
use Rattle.hnsw_build.proofs.LevelFacts.{top_most}
use Rattle.hnsw_build.proofs.EntryFacts.{entry_below, entry_top}

-- its entry point is a point of greatest level
pub plan_layered : (p : HnswPlan) → IsLayered (build_of p.points.now.vectors p.settings p.levels.items)
unfolding start_of
plan_layered p =
    let n = length p.points.now.vectors in
    let levels = p.levels.items in
    let ids = base_order p.settings.order n p.settings.seed in
    let base = base_ids p.settings.order n p.settings.seed in
    let some : 1 ≤ length levels = subst (λ m. 1 ≤ m) (sym p.levelled) p.count.0 in
    let inside : All (λ u. u < length levels) ids = subst (λ m. All (λ u. u < m) ids) (sym p.levelled) (all_from_has (λ u. u < n) ids base.below) in
    record {
      levelled = p.levelled;
      start_below = subst (λ m. start_of p.points.now.vectors p.settings levels < m) p.levelled (entry_below levels ids some inside);
      start_top = entry_top levels ids some (λ u lt. base.each u (subst (λ m. u < m) p.levelled lt));
    }

pub plan_low : (p : HnswPlan) → top_of p.levels.items ≤ 15
plan_low p = top_most p.levels.items 15 (λ x h. All_has (λ l. l ≤ 15) p.levels.items x p.low h)

-- the points of a batch are those between its bounds
pub batch_is : (p : HnswPlan) (k from to : ℕ) → from ≡ bound_at (length p.points.now.vectors) p.cap k → to ≡ bound_at (length p.points.now.vectors) p.cap (k + 1) → take (to - from) (drop from p.order.items) ≡ batch_at p.order.items p.cap (k + 1)
batch_is p k from to low high =
    let count : length p.points.now.vectors ≡ length p.order.items = sym p.whole in
    let next : suc k ≡ k + 1 = omega arith in
    let low' : from ≡ bound_at (length p.order.items) p.cap k = low ∙ ap (λ n. bound_at n p.cap k) count in
    let high' : to ≡ bound_at (length p.order.items) p.cap (suc k) = high ∙ (λ i. bound_at (count i) p.cap (sym next i)) in
    (λ i. take (high' i - low' i) (drop (low' i) p.order.items)) ∙ ap (batch_at p.order.items p.cap) next

-- the order and the cap are those of the settings
pub plan_batch : (p : HnswPlan) (k : ℕ) → batch_at p.order.items p.cap (k + 1) ≡ batch_at (order_of p.points.now.vectors p.settings p.levels.items) (batch_cap p.points.now.vectors p.settings) (suc k)
plan_batch p k = let next : k + 1 ≡ suc k = omega arith in λ i. batch_at (p.ordered i) (p.capped i) (next i)
