use Rattle.std.proofs.Common.{◌∙◌, ◌+◌, ◌*◌, ℕ, sym, arith, get_or}
use Rattle.ann_defs.specs.Distance.{squared_gap}
use Rattle.seeded_order.proofs.Spreads.{sum_more}
use Rattle.seeded_order.proofs.centroid.spread_of.Goals as goal

pub loop-j-preserved : goal.loop-j-preserved
loop-j-preserved c =
    let gap = λ (j : ℕ). squared_gap (c.args.n * get_or c.args.point.now j 0) (get_or c.args.sums.now j 0) in
    record {
      total = (λ i. c.loop-j.invariant.total i + (c.from-total.ensures ∙ c.column_gap.ensures.value) i) ∙ sym (sum_more gap c.loop-j.j);
      bound = omega (arith, c.from-total.ensures, c.column_gap.ensures.bound);
    }
