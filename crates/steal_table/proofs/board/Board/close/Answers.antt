use Rattle.std.proofs.Common.{◌≡◌, ◌<◌, ◌≤◌, ℕ, sym, ap, ◌∙◌, subst, arith, map, get_or, All}
use Rattle.steal_table.specs.declared.view.Size.{Size}
use Rattle.steal_table.specs.Report.{Owned}
use Rattle.steal_table.specs.Rule.{Block, HasEntry}
use Rattle.steal_table.specs.Steps.{HasEntryOf}
use Rattle.steal_table.specs.Passes.{BoardId, PassState}
use Rattle.steal_table.proofs.Closes.{closes, words_done, block_at, owner_at, owners_most}
use Rattle.steal_table.proofs.board.Board.close.Goals as goal

pub empty_out-blocks-requires-clause-done : goal.empty_out-blocks-requires-clause-done
empty_out-blocks-requires-clause-done c t n lt at =
    let i = c.self.invariant in let tasks = ap (λ (z : BoardId). z.size.tasks) c.self.view_is in let keys = ap (λ (z : Size). z.workers) i.0 in let most = i.3 in
    let seat = c.own.inside.seat in let closed = c.close_with.result in
    let has = subst (λ (z : PassState). HasEntryOf z.view t) (sym c.own.view_is) (c.requires.all t (omega arith)) in
    words_done c.self.inside.table.shared.key seat.id seat.me.0 closed.words.items closed.slots.items c.close_with.ensures.values.2 c.own.invariant.0 (omega arith) t n has at

pub of-requires-2-clause-owners : goal.of-requires-2-clause-owners
of-requires-2-clause-owners c =
    let i = c.self.invariant in let seat = c.own.inside.seat in let closed = c.close_with.result in let key = c.self.inside.table.shared.key in
    let size : key ≡ c.self.inside.size = i.0 in
    let keys = ap (λ (z : Size). z.workers) size in let key_tasks = ap (λ (z : Size). z.tasks) size in let tasks = ap (λ (z : BoardId). z.size.tasks) c.self.view_is in
    let all : (t : ℕ) → t < key.tasks → HasEntryOf seat.me.0 t = λ t lt. subst (λ (z : PassState). HasEntryOf z.view t) (sym c.own.view_is) (c.requires.all t (omega arith)) in
    subst (λ (w : ℕ). All (λ i. i ≤ w) c.empty_out-blocks.result.1.items) keys
    (owners_most key seat.id seat.me.0 closed.words.items closed.slots.items c.close_with.ensures.values.2 c.own.invariant.0 c.empty_out-blocks.result.1.items c.empty_out-blocks.ensures.owners
    (c.empty_out-blocks.ensures.count ∙ sym key_tasks) all)

pub returns-clause-blocks : goal.returns-clause-blocks
returns-clause-blocks c e has =
    let seat = c.own.inside.seat in let closed = c.close_with.result in
    let mine = subst (λ (z : PassState). HasEntry z.view e) (sym c.own.view_is) has in
    block_at closed.slots.items c.of.result e (c.of.ensures ∙ ap (map (λ (y : Block). y.items)) c.empty_out-blocks.ensures.blocks)
    (closes c.self.inside.table.shared.key seat.id seat.me.0 closed.words.items closed.slots.items c.close_with.ensures.values.2 c.own.invariant.0 e mine).1

pub returns-clause-owners : goal.returns-clause-owners
returns-clause-owners c e has =
    let seat = c.own.inside.seat in let closed = c.close_with.result in let key = c.self.inside.table.shared.key in
    let mine = subst (λ (z : PassState). HasEntry z.view e) (sym c.own.view_is) has in
    let key_tasks = ap (λ (z : Size). z.tasks) c.self.invariant.0 in
    ap (λ (r : Owned). get_or r.owners e.task 0) c.of-2.ensures
    ∙ owner_at key seat.id seat.me.0 closed.words.items closed.slots.items c.close_with.ensures.values.2 c.own.invariant.0 c.empty_out-blocks.result.1.items c.empty_out-blocks.ensures.owners
    (c.empty_out-blocks.ensures.count ∙ sym key_tasks) e mine
