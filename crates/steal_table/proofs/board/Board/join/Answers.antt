use Rattle.std.proofs.Common.{arith, refl, sym, ap, subst, ◌∙◌, ◌≢◌}
use Rattle.steal_table.specs.declared.view.Entry.{Entry}
use Rattle.steal_table.specs.declared.view.Size.{Size}
use Rattle.steal_table.specs.Rule.{HasEntry, taken_over}
use Rattle.steal_table.specs.Steps.{Seated, OnePerTask}
use Rattle.steal_table.specs.Passes.{BoardId, PassState}
use Rattle.steal_table.proofs.Looks.{looks_first}
use Rattle.steal_table.proofs.Joins.{joins, apart_in_one}
use Rattle.steal_table.proofs.Holdings.{nothing_out, still_sound}
use Rattle.steal_table.proofs.board.Board.join.Goals as goal

-- src/board.rt:141:9
pub join_seat-requires : goal.join_seat-requires
join_seat-requires c =
    let b = ap (λ (z : PassState). z.board) c.own.view_is ∙ c.requires.own.0 ∙ sym c.self.view_is in let i = c.self.invariant in
    let d = ap (λ (z : PassState). z.board) c.pass.view_is ∙ c.requires.pass.0 ∙ sym c.self.view_is in let pass = c.pass.inside in
    let free = ap (λ (z : PassState). z.view.held) c.pass.view_is ∙ c.requires.pass.1 in
    let number = ap (λ (z : PassState). z.view.number) c.own.view_is ∙ c.requires.own.1 ∙ ap (λ (z : BoardId). z.size.workers) (sym c.self.view_is) ∙ ap (λ (z : Size). z.workers) (sym i.0) in (
      ap (λ (z : BoardId). z.table) b,
      ap (λ (z : BoardId). z.table) d,
      (nothing_out pass.of pass.seat.me pass.number pass.task pass.block.items c.pass.invariant free).0,
      (let w = i.1 in omega arith),
      joins _ _ _ c.own.inside.seat.me.0 pass.seat.me.0 c.own.invariant.0 number c.pass.invariant.0 free,
    )

-- src/board.rt:142:9
pub load-requires : goal.load-requires
load-requires c =
    let b = ap (λ (z : PassState). z.board) c.own.view_is ∙ c.requires.own.0 ∙ sym c.self.view_is in let i = c.self.invariant in let e = c.join_seat.ensures in (
      e.0 ∙ ap (λ (z : BoardId). z.table) b,
      (let w = i.1 in omega arith),
      looks_first _ _ _ c.join_seat.new.seat.me (ap (λ (m : Seated). m.0.live) e.2 ∙ c.own.invariant.0),
    )

-- src/board.rt:125:5
pub invariant_of-own : goal.invariant_of-own
invariant_of-own c = let own = c.own.inside in
    still_sound own.of own.seat.me c.load.new.seat.me (taken_over own.seat.me.0 c.pass.inside.seat.me.0) own.number own.task own.block.items c.own.invariant refl refl refl refl (c.load.ensures.2.0 ∙ c.join_seat.ensures.2)

-- src/board.rt:125:5
pub returns-clause-apart : goal.returns-clause-apart
returns-clause-apart c =
    let one = subst (λ (m : Seated). OnePerTask m.0) c.join_seat.ensures.2 c.load.ensures.2.1 in
    let apart = apart_in_one c.own.inside.seat.me.0 c.pass.inside.seat.me.0 one in
    subst (λ (z : PassState). (e f : Entry) → HasEntry z.view e → HasEntry c.args.pass.view f → e.task ≢ f.task) c.own.view_is
    (subst (λ (z : PassState). (e f : Entry) → HasEntry c.own.inside.seat.me.0 e → HasEntry z.view f → e.task ≢ f.task) c.pass.view_is apart)
