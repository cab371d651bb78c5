use Rattle.std.proofs.Common.{◌≡◌, ◌∙◌, ◌<◌, ℕ, List, length, not, min, refl, ap, arith}
use Rattle.std.specs.List.{filter, range_with_len}
use Rattle.ann_defs.specs.Graph.{has}
use Rattle.graph_rows.specs.Flat.{Flat}
use Rattle.neighbour_lists.specs.declared.edge.Edge.{Edge}
use Rattle.neighbour_lists.specs.Reversed.{reverse_in, others_of}
use Rattle.neighbour_lists.specs.WrittenRows.{with_rows}
use Rattle.neighbour_lists.proofs.EdgeFacts.{nearest_edges}
use Rattle.neighbour_lists.proofs.AllRows.{all_written, row_written}
use Rattle.neighbour_lists.proofs.NewRows.{length-with_rows, with_none}
use Rattle.neighbour_lists.proofs.Reversing.{reversed}
use Rattle.neighbour_lists.proofs.others.other_sides.Goals as goal

pub loop-u-init : goal.loop-u-init
loop-u-init c =
    let points = c.args.points.now.vectors in
    let rows = c.args.rows.now.rows in
    let copied = c.in_ok-others.ensures in
    record {
      rows = ap (λ (f : Flat). f.rows) copied ∙ with_none (others_of points c.args.rows.now.width rows) rows;
      width = ap (λ (f : Flat). f.width) copied;
      room = refl;
    }

pub set_row-requires-clause-i : goal.set_row-requires-clause-i
set_row-requires-clause-i c =
    let points = c.args.points.now.vectors in
    let rows = c.args.rows.now.rows in
    let others = others_of points c.args.rows.now.width rows in
    let long = ap (λ (rs : List (List ℕ)). length rs) c.loop-u.invariant.rows ∙ length-with_rows others rows (range_with_len 0 c.loop-u.u) ∙ c.requires.good.count in
    let below = c.loop-u-test.true in
    let count = c.count-u-end.ensures.value in
    omega (arith, long, below, count)

pub loop-u-preserved : goal.loop-u-preserved
loop-u-preserved c =
    let points = c.args.points.now.vectors in
    let rows = c.args.rows.now.rows in
    let width = c.args.rows.now.width in
    let others = others_of points width rows in
    let u = c.loop-u.u in
    let to = c.to-to.result.now in
    let few = c.min-count.ensures ∙ ap (min (length to)) c.width.ensures.value in
    let back = nearest_edges c.args.edges.now width u c.min-count.result to c.to-to.ensures few ∙ ap (λ (es : List Edge). reverse_in es width u) c.requires.edges ∙ reversed points width rows c.requires.good u in
    let row = c.write_others-len.ensures.ids ∙ (λ i. filter (λ w. not (has (c.at.ensures.row i) w)) (back i)) in
    let below = c.loop-u-test.true in
    let count = c.count-u-end.ensures.value in
    let lt : u < length rows = let good = c.requires.good.count in omega (arith, below, count, good) in
    record {
      rows = row_written others rows c.loop-u.others.rows c.set_row.new.self.rows u _ lt c.loop-u.invariant.rows row (ap (λ (f : Flat). f.rows) c.set_row.ensures);
      width = ap (λ (f : Flat). f.width) c.set_row.ensures ∙ c.loop-u.invariant.width;
      room = c.write_others-len.ensures.len ∙ c.loop-u.invariant.room;
    }

pub returns-clause-rows : goal.returns-clause-rows
returns-clause-rows c =
    let points = c.args.points.now.vectors in
    let rows = c.args.rows.now.rows in
    let n = length points in
    let others = others_of points c.args.rows.now.width rows in
    let last = c.loop-u-test.false in
    let end = c.loop-u.auto.u-end in
    let count = c.count-u-end.ensures.value in
    let at : c.loop-u.u ≡ n = omega (arith, last, end, count) in
    c.loop-u.invariant.rows
    ∙ ap (λ (k : ℕ). with_rows others (range_with_len 0 k) rows) at
    ∙ all_written others rows n c.requires.good.count
