use Rattle.std.proofs.Common.{◌≡◌, ◌∙◌, ◌+◌, ◌≤◌, not, length, sym, arith}
use Rattle.std.specs.List.{filter}
use Rattle.ann_defs.specs.Graph.{has}
use Rattle.seeded_order.proofs.Spreads.{sum_more}
use Rattle.neighbour_lists.specs.Changes.{entered_between}
use Rattle.neighbour_lists.proofs.changes.count_changes.Goals as goal

pub loop-v-preserved : goal.loop-v-preserved
loop-v-preserved c =
    let old = c.args.old.now.rows in
    let new = c.args.new.now.rows in
    let v = c.loop-v.v in
    let here : c.entered_in.result ≡ entered_between old new v = c.entered_in.ensures.value ∙ (λ i. length (filter (λ u. not (has (c.at.ensures.row i) u)) (c.at-in-loop-v.ensures.row i))) in
    let short : c.entered_in.result ≤ 128 = omega (arith, c.entered_in.ensures.bound, c.at-in-loop-v.ensures.small) in
    record {
      sum = (λ i. c.loop-v.invariant.sum i + here i) ∙ sym (sum_more (entered_between old new) v);
      bound = omega arith;
    }
