use Rattle.std.proofs.Common.{◌≡◌, ◌∙◌, ◌+◌, ◌<◌, ℕ, sym, ap, subst, arith, length, List, get_or}
use Rattle.std.specs.List.{All}
use Rattle.std.specs.List.Sorted.{IsNonDecreasingBy}
use Rattle.std.proofs.lemmas.List.Elements.{All-weaker}
use Rattle.ann_defs.specs.Ordered.{ordered}
use Rattle.neighbour_lists.specs.declared.edge.Edge.{Edge}
use Rattle.neighbour_lists.specs.Edges.{edge_cmp, edges_of, IsStart}
use Rattle.neighbour_lists.proofs.EdgeOrder.{ordered_targets}
use Rattle.neighbour_lists.proofs.EdgeFacts.{targets_inside}
use Rattle.neighbour_lists.proofs.edges.Edges.of.Goals as goal

pub starts_of-requires-clause-sorted : goal.starts_of-requires-clause-sorted
starts_of-requires-clause-sorted c = subst (IsNonDecreasingBy (λ (e : Edge). e.target)) (sym (c.as_slice.ensures.value ∙ c.sort_edges.ensures.items)) (ordered_targets c.in_ok-edges.edges.items)

pub invariant_of-result : goal.invariant_of-result
invariant_of-result c =
    let points = c.args.points.now.vectors in
    let rows = c.args.rows.now.rows in
    let edges = c.sort_edges.new.edges.items in
    let starts = c.in_ok-starts.starts.items in
    let is : edges ≡ edges_of points rows = c.sort_edges.ensures.items ∙ ap (ordered edge_cmp) c.in_ok-edges.ensures.edges in
    let count : length starts ≡ length points + 1 = c.in_ok-starts.ensures.count ∙ ap (λ n. n + 1) c.count.ensures.value in
    let each = subst (λ (es : List Edge). (t : ℕ) → t < c.count.result + 1 → IsStart es t (get_or starts t 0)) c.as_slice.ensures.value c.in_ok-starts.ensures.starts in
    record {
      starts_at = λ t h. each t (subst (λ k. t < k) c.in_ok-starts.ensures.count h);
      inside = subst (All (λ (e : Edge). e.target + 1 < length starts)) (sym is)
          (All-weaker (λ (e : Edge). e.target < length points) (λ (e : Edge). e.target + 1 < length starts) (λ e h. omega (arith, h, count)) (edges_of points rows) (targets_inside points rows (length points) c.args.rows.now.width c.requires.good));
    }
