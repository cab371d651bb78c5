use Rattle.std.proofs.Common.{◌≡◌, ◌++◌, ℕ, true, subst, arith}
use Rattle.std.specs.List.{All}
use Rattle.std.proofs.lemmas.List.{take_all}
use Rattle.ann_defs.specs.Graph.{has}
use Rattle.ann_defs.proofs.Members.{has_true}
use Rattle.ann_defs.proofs.Order.{All_has}
use Rattle.neighbour_lists.specs.Reversed.{edge_ids}
use Rattle.neighbour_lists.proofs.around.has_row.Goals as goal

pub returns : goal.returns
returns c = λ _ u h.
    let row = c.args.row.now in
    let P = λ (u : ℕ). has (c.args.around.now.row.now ++ edge_ids c.args.around.now.edges.now) u ≡ true in
    All_has P row u (subst (All P) (take_all c.loop-id.id-index row (omega arith)) c.loop-id.invariant) (has_true row u h)
