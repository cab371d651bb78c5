use Rattle.std.proofs.Common.{◌≡◌, ◌++◌, ◌<◌, ℕ, false, length, get_or, sym, subst, inl, inr, arith}
use Rattle.std.specs.List.{All}
use Rattle.std.proofs.lemmas.List.{take_all, get_or-map, length-map}
use Rattle.std.proofs.lemmas.List.Elements.{All-more, All-get_or}
use Rattle.ann_defs.proofs.Members.{has-append, has_true, true_has}
use Rattle.ann_defs.proofs.Order.{All_has}
use Rattle.neighbour_lists.specs.declared.edge.Edge.{Edge}
use Rattle.neighbour_lists.specs.Reversed.{edge_ids}
use Rattle.neighbour_lists.proofs.EdgeFacts.{all_sources}
use Rattle.neighbour_lists.proofs.flags.are_unmoved.Goals as goal

pub loop-id-preserved : goal.loop-id-preserved
loop-id-preserved c = All-more (λ u. get_or c.args.moved.now u false ≡ false) c.args.around.now.row.now c.loop-id.id-index 0 c.loop-id-test.true c.loop-id.invariant c.if-moved-id.false

pub bounds-moved-edge : goal.bounds-moved-edge
bounds-moved-edge c =
    let none : Edge = record { target = 0; source = record { dist = 0; id = 0 } } in
    let edges = c.args.around.now.edges.now in
    let i = c.loop-edge.edge-index in
    let n = length c.args.moved.now in
    let within : i < length (edge_ids edges) = subst (λ m. i < m) (sym (length-map edges (λ (e : Edge). e.source.id))) c.loop-edge-test.true in
    subst (λ u. u < n) (get_or-map (λ (e : Edge). e.source.id) edges i none 0 c.loop-edge-test.true) (All-get_or (λ u. u < n) (edge_ids edges) i 0 within c.requires.sources)

pub loop-edge-preserved : goal.loop-edge-preserved
loop-edge-preserved c =
    let none : Edge = record { target = 0; source = record { dist = 0; id = 0 } } in
    All-more (λ (e : Edge). get_or c.args.moved.now e.source.id false ≡ false) c.args.around.now.edges.now c.loop-edge.edge-index none c.loop-edge-test.true c.loop-edge.invariant c.if-moved-edge.false

pub returns : goal.returns
returns c = λ _ u h.
    let row = c.args.around.now.row.now in
    let edges = c.args.around.now.edges.now in
    let P = λ (u : ℕ). get_or c.args.moved.now u false ≡ false in
    let of_row = subst (All P) (take_all c.loop-id.id-index row (omega arith)) c.loop-id.invariant in
    let of_edges = subst (All (λ (e : Edge). P e.source.id)) (take_all c.loop-edge.edge-index edges (omega arith)) c.loop-edge.invariant in
    elim (has-append row (edge_ids edges) u (has_true (row ++ edge_ids edges) u h)) as (λ _. get_or c.args.moved.now u false ≡ false) [
      | inl m ↦ All_has P row u of_row m
      | inr m ↦ all_sources P edges of_edges u (true_has (edge_ids edges) u m)
    ]
