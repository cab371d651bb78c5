use Rattle.std.proofs.Common.{refl, sym, ap, subst, ◌∙◌, IsSome, length, take, drop, ◌++◌}
use Rattle.steal_table.specs.Passes.{PassState}
use Rattle.steal_table.specs.Lending.{with_block}
use Rattle.steal_table.proofs.Holdings.{held_width}
use Rattle.steal_table.proofs.board.Pass.block.Goals as goal

-- src/board.rt:68:5
pub returns : goal.returns
returns c =
    let pass = c.self.inside in let y = pass.block in
    let held = subst (λ (z : PassState). IsSome z.view.held) (sym c.self.view_is) c.requires in
    let width = held_width pass.of pass.seat.me pass.number pass.task y.items c.self.invariant held in (
      (refl, λ w. (λ i. record { board = record { table = pass.seat.table_id; size = pass.of }; view = pass.seat.me.0; block = take (y.ok.0 i) (w ++ drop (length w) y.items) }) ∙ ap (λ (z : PassState). with_block z w) c.self.view_is),
      record {
        writes_back = tt;
        value = c.as_mut_slice.ensures.value ∙ ap (λ (z : PassState). z.block) c.self.view_is;
        len = ap length c.as_mut_slice.ensures.value ∙ width ∙ ap (λ (z : PassState). z.board.size.width) c.self.view_is;
      },
    )
