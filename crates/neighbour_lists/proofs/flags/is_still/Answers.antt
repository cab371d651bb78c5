use Rattle.std.proofs.Common.{◌≡◌, ◌∙◌, ◌++◌, ◌<◌, ℕ, true, List, length, sym, subst, inl, inr}
use Rattle.std.specs.List.{All}
use Rattle.ann_defs.specs.Graph.{has, row_in}
use Rattle.ann_defs.proofs.Members.{has-append, has_true}
use Rattle.ann_defs.proofs.Order.{All_has}
use Rattle.neighbour_lists.specs.Reversed.{reverse_in, edge_ids}
use Rattle.neighbour_lists.specs.Settled.{around_in}
use Rattle.neighbour_lists.proofs.EdgeFacts.{reverse_inside}
use Rattle.neighbour_lists.proofs.flags.is_still.Goals as goal

pub are_unmoved-requires-clause-sources : goal.are_unmoved-requires-clause-sources
are_unmoved-requires-clause-sources c = subst (All (λ u. u < length c.args.moved.now)) (sym c.around.ensures.edges) (reverse_inside c.args.old.now.edges.now c.args.list c.args.v (length c.args.moved.now) c.requires.sources)

pub returns : goal.returns
returns c = λ h.
    let old = c.args.old.now.rows.now.rows in
    let edges = c.args.old.now.edges.now in
    let v = c.args.v in
    let n = length c.args.moved.now in
    let around = around_in c.args.list old edges v in
    let same : around ≡ c.around.result.row.now ++ edge_ids c.around.result.edges.now = λ i. sym c.around.ensures.row i ++ sym c.around.ensures.edges i in
    let below : (u : ℕ) → has around u ≡ true → u < n = λ u m.
    elim (has-append (row_in old v) (reverse_in edges c.args.list v) u (has_true around u m)) as (λ _. u < n) [
      | inl k ↦ All_has (λ u. u < n) (row_in old v) u c.requires.rows k
      | inr k ↦ All_has (λ u. u < n) (reverse_in edges c.args.list v) u (reverse_inside edges c.args.list v n c.requires.sources) k
    ] in
    record {
      row = sym c.at.ensures.row ∙ c.are_same_rows.ensures c.if-not-are_same_rows.false ∙ c.at-2.ensures.row;
      around_it = c.requires.marks v c.requires.v c.if-moved-v.false;
      around_them = λ u m. c.requires.marks u (below u m) (c.are_unmoved.ensures h u (subst (λ (xs : List ℕ). has xs u ≡ true) same m));
    }
