use Rattle.std.proofs.Common.{◌∙◌, ◌++◌, List, take, ap}
use Rattle.ann_defs.specs.declared.near.Near.{Near}
use Rattle.ann_defs.specs.Nearness.{ids_of}
use Rattle.ann_defs.specs.Graph.{row_in}
use Rattle.ann_defs.specs.RobustPrune.{pruned_row}
use Rattle.neighbour_lists.specs.ListRound.{sources_of}
use Rattle.nn_descent.proofs.SidesFacts.{pruned_gathered}
use Rattle.nn_descent.proofs.pruned_graph.PrunedRowRowRule.write.Goals as goal

pub returns-clause-row : goal.returns-clause-row
returns-clause-row c =
    let r = c.args.self.now in
    let points = r.points.now.vectors in
    let rows = r.rows.now.rows in
    let v = c.args.v in
    let count = c.gather_sides-count.result in
    c.prune.ensures.row
    ∙ ap (λ (cs : List Near). pruned_row points v (ids_of (take count cs)) r.alpha.num r.alpha.den r.degree) c.deref_mut.ensures.value
    ∙ pruned_gathered points v (row_in rows v ++ sources_of rows v) (take count c.gather_sides-count.new.sides.cands.items) r.alpha.num r.alpha.den r.degree c.gather_sides-count.ensures.gathered
