-- What a plan keeps.
use Rattle.std.proofs.Common.{◌≡◌, ◌∙◌, ℕ, suc, ◌+◌, ◌-◌, ◌<◌, ◌≤◌, List, length, take, drop, sym, ap, subst, arith}
use Rattle.std.specs.Prelude.{slice_index}
use Rattle.std.proofs.lemmas.List.Elements.{All-get_or}
use Rattle.vamana_build.specs.declared.plan.Plan.{Plan}
use Rattle.ann_defs.specs.BatchInsert.{bound_at, batch_at}
use Rattle.prefix_batches.proofs.Bounds.{total_within, total_some}
use Rattle.vamana_build.specs.Builds.{order_of, start_of, batch_cap, pass_of}

-- the start is a point
pub start_below : (p : Plan) → start_of p.points.now.vectors p.settings < length p.points.now.vectors
start_below p =
    let n = length p.points.now.vectors in
    let some : 0 < length p.order.items = omega (arith, p.whole, p.count.0) in
    subst (λ (order : List ℕ). slice_index order 0 < n) p.ordered (All-get_or (λ u. u < n) p.order.items 0 0 some p.inside)

-- a pass has a batch, and no more of them than there are points
pub pass_some : (p : Plan) → 1 ≤ pass_of p.points.now.vectors p.settings
pass_some p = total_some (length p.points.now.vectors) (batch_cap p.points.now.vectors p.settings) p.count.0 (subst (λ (cap : ℕ). 1 ≤ cap) p.capped p.cap_fits.0)

pub pass_within : (p : Plan) → pass_of p.points.now.vectors p.settings ≤ length p.points.now.vectors
pass_within p = total_within (length p.points.now.vectors) (batch_cap p.points.now.vectors p.settings) p.count.0 (subst (λ (cap : ℕ). 1 ≤ cap) p.capped p.cap_fits.0)

-- the points of a batch are those between its bounds
pub batch_is : (p : Plan) (k from to : ℕ) → from ≡ bound_at (length p.points.now.vectors) p.cap k → to ≡ bound_at (length p.points.now.vectors) p.cap (k + 1) → take (to - from) (drop from p.order.items) ≡ batch_at (order_of p.points.now.vectors p.settings) (batch_cap p.points.now.vectors p.settings) (k + 1)
batch_is p k from to low high =
    let count : length p.points.now.vectors ≡ length (order_of p.points.now.vectors p.settings) = sym p.whole ∙ ap length p.ordered in
    let next : k + 1 ≡ suc k = omega arith in
    let low' : from ≡ bound_at (length (order_of p.points.now.vectors p.settings)) (batch_cap p.points.now.vectors p.settings) k = low ∙ (λ i. bound_at (count i) (p.capped i) k) in
    let high' : to ≡ bound_at (length (order_of p.points.now.vectors p.settings)) (batch_cap p.points.now.vectors p.settings) (suc k) = high ∙ (λ i. bound_at (count i) (p.capped i) (next i)) in
    (λ i. take (high' i - low' i) (drop (low' i) (p.ordered i))) ∙ ap (batch_at (order_of p.points.now.vectors p.settings) (batch_cap p.points.now.vectors p.settings)) (sym next)
