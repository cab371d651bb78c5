use Rattle.std.proofs.Common.{◌∙◌, ◌<◌, ℕ, [], length, replicate, sym, ap, subst}
use Rattle.std.specs.List.{All}
use Rattle.std.proofs.lemmas.List.{length-replicate}
use Rattle.ann_defs.specs.Graph.{AreGoodRows}
use Rattle.graph_rows.specs.Flat.{Flat}
use Rattle.seeded_order.specs.Order.{file_order_of}
use Rattle.nn_descent.specs.SearchGraph.{graph_row}
use Rattle.neighbour_lists.specs.WrittenRows.{with_rows}
use Rattle.neighbour_lists.proofs.AllRows.{all_inside, all_written}
use Rattle.nn_descent.proofs.GraphFacts.{graph_good}
use Rattle.nn_descent.proofs.pruned_graph.pruned_rows.Goals as goal

pub put_rows-requires-clause-inside : goal.put_rows-requires-clause-inside
put_rows-requires-clause-inside g c κs within =
    let points = c.args.points.now.vectors in
    let ids = c.deref.ensures.value ∙ c.in_ok-ids.ensures ∙ ap file_order_of c.count-n.ensures.value in
    subst (All (λ (v : ℕ). v < length points)) (sym ids) (all_inside (length points))

pub returns-clause-rows : goal.returns-clause-rows
returns-clause-rows g c =
    let points = c.args.points.now.vectors in
    let n = length points in
    let row = graph_row points c.args.rows.now.rows c.args.alpha.num c.args.alpha.den c.args.degree in
    let ids = c.deref.ensures.value ∙ c.in_ok-ids.ensures ∙ ap file_order_of c.count-n.ensures.value in
    let empty = ap (λ (f : Flat). f.rows) c.in_ok-graph.ensures ∙ ap (λ (k : ℕ). replicate k []) c.count-n.ensures.value in
    let width = c.in_ok-put_rows.ensures.width ∙ ap (λ (f : Flat). f.width) c.in_ok-graph.ensures in
    let rows = c.in_ok-put_rows.ensures.rows ∙ (λ i. with_rows row (ids i) (empty i)) ∙ all_written row (replicate n []) n (length-replicate n []) in
    λ i. record { width = width i; rows = rows i }

pub returns-clause-good : goal.returns-clause-good
returns-clause-good g c =
    let points = c.args.points.now.vectors in
    let n = length points in
    let num = c.args.alpha.num in
    let den = c.args.alpha.den in
    let rows = c.args.rows.now.rows in
    let row = graph_row points rows num den c.args.degree in
    let ids = c.deref.ensures.value ∙ c.in_ok-ids.ensures ∙ ap file_order_of c.count-n.ensures.value in
    let empty = ap (λ (f : Flat). f.rows) c.in_ok-graph.ensures ∙ ap (λ (k : ℕ). replicate k []) c.count-n.ensures.value in
    let written = c.in_ok-put_rows.ensures.rows ∙ (λ i. with_rows row (ids i) (empty i)) ∙ all_written row (replicate n []) n (length-replicate n []) in
    subst (AreGoodRows n c.args.degree) (sym written) (graph_good points rows c.args.rows.now.width c.requires.good num den c.args.degree)
