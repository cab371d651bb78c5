use Rattle.std.proofs.Common.{arith, refl, sym, ap, ◌∙◌}
use Rattle.steal_table.specs.declared.view.Size.{Size}
use Rattle.steal_table.specs.Rule.{one_more}
use Rattle.steal_table.specs.Passes.{BoardId, PassState}
use Rattle.steal_table.proofs.Splits.{splits}
use Rattle.steal_table.proofs.Holdings.{still_sound}
use Rattle.steal_table.proofs.board.Board.split.Goals as goal

pub split_seat-seat-requires : goal.split_seat-seat-requires
split_seat-seat-requires c =
    let b = ap (λ (z : PassState). z.board) c.own.view_is ∙ c.requires.board ∙ sym c.self.view_is in let i = c.self.invariant in
    let workers = ap (λ (z : BoardId). z.size.workers) (sym c.self.view_is) ∙ ap (λ (z : Size). z.workers) (sym i.0) in
    let number = ap (λ (z : PassState). z.view.number) c.own.view_is ∙ c.requires.caller ∙ workers in
    let made = ap (λ (z : PassState). z.view.made) c.own.view_is ∙ c.requires.room.0 in let lt = c.requires.room.1 in
    (ap (λ (z : BoardId). z.table) b, (let w = i.1 in omega arith), splits _ c.own.inside.seat.id c.own.inside.seat.me.0 c.own.invariant.0 number (omega arith))

pub invariant_of-own : goal.invariant_of-own
invariant_of-own c = let own = c.own.inside in still_sound own.of own.seat.me c.split_seat-seat.new.seat.me (one_more own.seat.me.0) own.number own.task own.block.items c.own.invariant refl refl refl refl c.split_seat-seat.ensures.2
