use Rattle.std.proofs.Common.{arith, sym, ap, subst, ◌∙◌, ◌≤◌, ◌-◌, ◌/◌, Fits-le, Fits-lit}
use Rattle.steal_table.specs.declared.view.Size.{Size}
use Rattle.steal_table.specs.Rule.{HasEntry}
use Rattle.steal_table.specs.Steps.{NoEntry, AllBack}
use Rattle.steal_table.specs.Passes.{BoardId, PassState}
use Rattle.steal_table.proofs.Looks.{looks, tells_look, shows_worker, shows_none}
use Rattle.steal_table.proofs.board.Board.look.Goals as goal

-- src/board.rt:152:13
pub load-found-requires : goal.load-found-requires
load-found-requires c =
    let b = ap (λ (z : PassState). z.board) c.own.view_is ∙ c.requires.own.0 ∙ sym c.self.view_is in let i = c.self.invariant in
    let tasks = ap (λ (z : BoardId). z.size.tasks) c.self.view_is in let keys = ap (λ (z : Size). z.tasks) i.0 in let lt = c.requires.task in
    (ap (λ (z : BoardId). z.table) b, (let w = i.1 in omega arith), looks _ _ _ c.args.task c.own.inside.seat.me c.own.invariant.0 (omega arith))

-- src/board.rt:159:19
pub overflow_sub-result : goal.overflow_sub-result
overflow_sub-result c =
    let free = ap (λ (z : PassState). z.view.held) c.own.view_is ∙ c.requires.own.1 in let all = subst (λ (z : PassState). AllBack z.view) (sym c.own.view_is) c.requires.own.2 in
    let x = shows_worker c.own.inside.seat.me.0 c.args.task c.load-found.result (tells_look c.args.task c.load-found.result c.own.inside.seat.me c.load-found.new.seat.me c.load-found.ensures.2 free all) c.if-found-eq0.false in
    let two = x.4 in omega arith

-- src/board.rt:157:13
pub returns-then-found-eq0-clause-answer : goal.returns-then-found-eq0-clause-answer
returns-then-found-eq0-clause-answer c =
    let free = ap (λ (z : PassState). z.view.held) c.own.view_is ∙ c.requires.own.1 in let all = subst (λ (z : PassState). AllBack z.view) (sym c.own.view_is) c.requires.own.2 in
    let none = shows_none c.own.inside.seat.me.0 c.args.task c.load-found.result (tells_look c.args.task c.load-found.result c.own.inside.seat.me c.load-found.new.seat.me c.load-found.ensures.2 free all) c.if-found-eq0.true in
    subst (λ (z : PassState). NoEntry z.view c.args.task) c.own.view_is none

-- src/board.rt:159:14
pub overflow_cast-result : goal.overflow_cast-result
overflow_cast-result c =
    let free = ap (λ (z : PassState). z.view.held) c.own.view_is ∙ c.requires.own.1 in let all = subst (λ (z : PassState). AllBack z.view) (sym c.own.view_is) c.requires.own.2 in
    let x = shows_worker c.own.inside.seat.me.0 c.args.task c.load-found.result (tells_look c.args.task c.load-found.result c.own.inside.seat.me c.load-found.new.seat.me c.load-found.ensures.2 free all) c.if-found-eq0.false in
    let b = ap (λ (z : PassState). z.board) c.own.view_is ∙ c.requires.own.0 ∙ sym c.self.view_is in
    let size = ap (λ (z : Size). z.workers) c.own.invariant.3 ∙ ap (λ (z : BoardId). z.size.workers) b in let most = c.self.invariant.3 in
    let is = x.3 in let le = x.5 in let small : c.load-found.result / 2 - 1 ≤ 64 = omega arith in Fits-le small (Fits-lit tt)

-- src/board.rt:146:5
pub returns-clause-answer : goal.returns-clause-answer
returns-clause-answer c =
    let free = ap (λ (z : PassState). z.view.held) c.own.view_is ∙ c.requires.own.1 in let all = subst (λ (z : PassState). AllBack z.view) (sym c.own.view_is) c.requires.own.2 in
    let x = shows_worker c.own.inside.seat.me.0 c.args.task c.load-found.result (tells_look c.args.task c.load-found.result c.own.inside.seat.me c.load-found.new.seat.me c.load-found.ensures.2 free all) c.if-found-eq0.false in
    (x.0, subst (λ (z : PassState). HasEntry z.view x.0) c.own.view_is x.1, x.2, x.3)
