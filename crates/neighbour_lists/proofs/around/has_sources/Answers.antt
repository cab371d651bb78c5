use Rattle.std.proofs.Common.{◌≡◌, ◌++◌, ℕ, true, subst, arith}
use Rattle.std.specs.List.{All}
use Rattle.std.proofs.lemmas.List.{take_all}
use Rattle.ann_defs.specs.Graph.{has}
use Rattle.neighbour_lists.specs.declared.edge.Edge.{Edge}
use Rattle.neighbour_lists.specs.Reversed.{edge_ids}
use Rattle.neighbour_lists.proofs.EdgeFacts.{all_sources}
use Rattle.neighbour_lists.proofs.around.has_sources.Goals as goal

pub returns : goal.returns
returns c = λ _ u h.
    let edges = c.args.edges.now in
    let P = λ (u : ℕ). has (c.args.around.now.row.now ++ edge_ids c.args.around.now.edges.now) u ≡ true in
    all_sources P edges (subst (All (λ (e : Edge). P e.source.id)) (take_all c.loop-edge.edge-index edges (omega arith)) c.loop-edge.invariant) u h
