use Rattle.std.proofs.Common.{◌∙◌, ◌++◌, ◌∷◌, [], ap, sym, List, ℕ, arith}
use Rattle.seeded_order.proofs.Fronts.{range_more}
use Rattle.seeded_order.proofs.insertion.file_order.Goals as goal

pub loop-id-preserved : goal.loop-id-preserved
loop-id-preserved c =
    c.in_ok-push.ensures.items ∙ ap (λ (xs : List ℕ). xs ++ c.loop-id.id ∷ []) c.loop-id.invariant ∙ sym (range_more 0 c.loop-id.id c.loop-id.id (omega arith))
