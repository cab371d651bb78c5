use Rattle.std.proofs.Common.{◌≡◌, ◌∙◌, ◌+◌, ◌++◌, ◌<◌, [], ℕ, List, map, length, sym, ap, arith, length-append}
use Rattle.std.specs.List.{flat_map, range_with_len}
use Rattle.std.proofs.lemmas.List.{flat_map_more, length-map}
use Rattle.std.proofs.lemmas.List.Sums.{sum_by_more}
use Rattle.seeded_order.proofs.Fronts.{range_more}
use Rattle.ann_defs.specs.Graph.{row_in}
use Rattle.neighbour_lists.specs.declared.edge.Edge.{Edge}
use Rattle.neighbour_lists.specs.Edges.{edge_to, edges_from}
use Rattle.neighbour_lists.proofs.edges.all_edges.Goals as goal

pub loop-u-preserved : goal.loop-u-preserved
loop-u-preserved c =
    let points = c.args.points.now.vectors in
    let rows = c.args.rows.now.rows in
    let u = c.loop-u.u in
    let each = edges_from points rows in
    let added : c.add_edges.new.edges.items ≡ c.loop-u.edges.items ++ each u = c.in_ok-add_edges.ensures ∙ ap (λ (row : List ℕ). c.loop-u.edges.items ++ map (edge_to points u) row) c.at.ensures.row in
    let within : u < length rows = omega arith in
    record {
      edges = added
          ∙ ap (λ (es : List Edge). es ++ each u) c.loop-u.invariant.edges
          ∙ flat_map_more each [] (range_with_len 0 u) u
          ∙ ap (flat_map each) (sym (range_more 0 u u (omega arith)));
      count = ap (λ (es : List Edge). length es) added
          ∙ length-append c.loop-u.edges.items (each u)
          ∙ (λ i. c.loop-u.invariant.count i + length-map (row_in rows u) (edge_to points u) i)
          ∙ sym (sum_by_more (λ (row : List ℕ). length row) rows u [] within);
    }
