use Rattle.std.proofs.Common.{◌≡◌, ◌<◌, ◌≤◌, ℕ, List, sym, subst, refl, arith, get_or}
use Rattle.ann_defs.specs.Distance.{dim_of}
use Rattle.seeded_order.specs.Medoid.{column_sum, spread}
use Rattle.seeded_order.proofs.Spreads.{spread_is, best_takes, best_keeps}
use Rattle.seeded_order.proofs.centroid.medoid.Goals as goal
use Rattle.seeded_order.proofs.centroid.medoid.Goals.{then-spread-least, else-spread-least}

pub loop-u-init : goal.loop-u-init
loop-u-init c =
    let points = c.args.points.now.vectors in
    let columns = subst (λ (s : List ℕ). (j : ℕ) → j < dim_of points → get_or s j 0 ≡ column_sum points j) (sym c.as_slice.ensures.value) c.in_ok-sums.ensures.sums in
    record {
      best = refl;
      below = omega arith;
      least = spread_is points c.as_slice.result.now c.at.result.now c.count-n.result 0 c.spread_of-least.result c.count-n.ensures.value c.at.ensures.value c.at.ensures.dim columns c.spread_of-least.ensures;
    }

pub loop-u-preserved : goal.loop-u-preserved
loop-u-preserved c =
    let points = c.args.points.now.vectors in
    let u = c.loop-u.u in
    let columns = subst (λ (s : List ℕ). (j : ℕ) → j < dim_of points → get_or s j 0 ≡ column_sum points j) (sym c.as_slice-in-loop-u.ensures.value) c.in_ok-sums.ensures.sums in
    let here : c.spread_of-spread.result ≡ spread points u = spread_is points c.as_slice-in-loop-u.result.now c.at-in-loop-u.result.now c.count-n.result u c.spread_of-spread.result c.count-n.ensures.value c.at-in-loop-u.ensures.value c.at-in-loop-u.ensures.dim columns c.spread_of-spread.ensures in
    let best = c.loop-u.invariant.least in
    let some : 1 ≤ u = omega arith in
    elim c.if-spread-least.branch [
      | then-spread-least w ↦
          let less : spread points u < spread points c.loop-u.best = omega (arith, here, best, w.if-spread-least.true) in
          rw (w.best-is, w.least-is) (record {
            best = best_takes (spread points) u c.loop-u.best some c.loop-u.invariant.best less;
            below = omega arith;
            least = here;
          })
      | else-spread-least w ↦
          let more : spread points c.loop-u.best ≤ spread points u = omega (arith, here, best, w.if-spread-least.false) in
          rw (w.best-is, w.least-is) (record {
            best = best_keeps (spread points) u c.loop-u.best some c.loop-u.invariant.best c.loop-u.invariant.below more;
            below = omega arith;
            least = best;
          })
    ]
