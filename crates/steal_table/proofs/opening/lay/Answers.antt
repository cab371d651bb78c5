use Rattle.std.proofs.Common.{ℕ, List, sym, ◌∙◌, subst}
use Rattle.atomic_table.specs.Table.{opening}
use Rattle.steal_table.specs.Rule.{Rule, caller_first}
use Rattle.steal_table.proofs.Begins.{begins}
use Rattle.steal_table.proofs.Emptying.{wide_at}
use Rattle.steal_table.proofs.opening.lay.Goals as goal

pub new-requires : goal.new-requires
new-requires c =
    let size = c.args.size in
    subst (λ (ws : List ℕ). Rule size (opening ws c.in_ok-blocks.blocks.items (caller_first size))) (sym (c.as_slice.ensures.value ∙ c.in_ok-words.ensures.items_if_clones_equal (λ y e. e)))
    (begins size c.in_ok-blocks.blocks.items c.in_ok-blocks.ensures.count (wide_at size.width c.in_ok-blocks.blocks.items c.in_ok-blocks.ensures.wide))
