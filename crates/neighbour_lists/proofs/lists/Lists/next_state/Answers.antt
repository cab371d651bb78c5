use Rattle.std.proofs.Common.{◌∙◌, ℕ, List, length, sym, ap, subst}
use Rattle.ann_defs.specs.Graph.{AreGoodRows}
use Rattle.neighbour_lists.proofs.Belonging.{next_lists}
use Rattle.neighbour_lists.proofs.lists.Lists.next_state.Goals as goal

pub of-requires-clause-count : goal.of-requires-clause-count
of-requires-clause-count g c = ap (λ (rows : List (List ℕ)). length rows) c.in_ok-improved.ensures.rows ∙ (next_lists c.args.points.now.vectors c.sort_edges.new.self c.in_ok-sort_edges.ensures.belong).good.count

pub of-requires-clause-good : goal.of-requires-clause-good
of-requires-clause-good g c =
    let points = c.args.points.now.vectors in
    let next = next_lists points c.sort_edges.new.self c.in_ok-sort_edges.ensures.belong in
    subst (λ w. AreGoodRows (length points) w c.in_ok-improved.improved.rows.rows) (sym c.in_ok-improved.ensures.width) (subst (AreGoodRows (length points) c.sort_edges.new.self.list) (sym c.in_ok-improved.ensures.rows) next.good)
