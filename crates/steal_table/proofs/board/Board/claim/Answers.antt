use Rattle.std.proofs.Common.{arith, sym, ap, subst, ◌∙◌, ◌≡◌, ◌<◌, ℕ, ◌+◌, ◌-◌, ◌*◌, ◌/◌, List, ◌∷◌}
use Rattle.atomic_table.specs.Table.{rest}
use Rattle.steal_table.specs.Passes.{BoardId, PassState}
use Rattle.steal_table.specs.Rule.{Block, HasEntry}
use Rattle.steal_table.specs.declared.view.Entry.{Entry}
use Rattle.steal_table.specs.declared.view.Size.{Size}
use Rattle.steal_table.proofs.Claims.{claims_by, tells_mine, tells_held, tells_done}
use Rattle.steal_table.proofs.Holdings.{nothing_out, claim_sound}
use Rattle.steal_table.specs.Steps.{Seated, NoEntry, AllBack, HasEntryOf}
use Rattle.steal_table.proofs.board.Board.claim.Goals as goal

pub compare_exchange-found-requires : goal.compare_exchange-found-requires
compare_exchange-found-requires c =
    let b = ap (λ (z : PassState). z.board) c.pass.view_is ∙ c.requires.board ∙ sym c.self.view_is in let i = c.self.invariant in let p = c.pass.invariant in
    let free = ap (λ (z : PassState). z.view.held) c.pass.view_is ∙ c.requires.free in
    let size = ap (λ (z : BoardId). z.size) b in
    let tasks = ap (λ (z : BoardId). z.size.tasks) c.self.view_is in
    let keys = ap (λ (z : Size). z.tasks) i.0 in
    let lt = c.requires.task in
    let pass = c.pass.inside in (
      ap (λ (z : BoardId). z.table) b,
      (let w = i.1 in omega arith),
      claims_by _ _ _ c.args.task _ pass.seat.me (nothing_out pass.of pass.seat.me pass.number pass.task pass.block.items p free).0 p.0 free (p.3 ∙ size ∙ sym i.0) (omega arith) (ap (λ (n : ℕ). 2 * n + 1) (c.from.ensures ∙ sym p.1)),
    )

-- src/board.rt:69:13
pub exchange-requires : goal.exchange-requires
exchange-requires c =
    let b = ap (λ (z : PassState). z.board) c.pass.view_is ∙ c.requires.board ∙ sym c.self.view_is in
    let e = c.compare_exchange-found.ensures in let t = tells_mine c.args.task _ c.pass.inside.seat.me c.compare_exchange-found.new.seat.me e.2 c.if-found-eq0.true in
    let has = ap (λ (m : Seated). m.1) t.0.2 in
    (e.0 ∙ ap (λ (z : BoardId). z.table) b, (t.0.0, has ∙ ap (λ (l : List (ℕ × Block)). (c.args.task, t.0.0) ∷ l) (sym (ap rest has))))

-- src/board.rt:71:13
pub invariant_of-pass : goal.invariant_of-pass
invariant_of-pass c =
    let p = c.pass.invariant in let pass = c.pass.inside in let old = pass.seat.me in let mid = c.compare_exchange-found.new.seat.me in
    let b = ap (λ (z : PassState). z.board) c.pass.view_is ∙ c.requires.board in
    let free = ap (λ (z : PassState). z.view.held) c.pass.view_is ∙ c.requires.free in
    let t = tells_mine c.args.task _ old mid c.compare_exchange-found.ensures.2 c.if-found-eq0.true in
    let tasks = ap (λ (z : BoardId). z.size.tasks) b in let lt = c.requires.task in let below : c.args.task < pass.of.tasks = omega arith in
    claim_sound pass.of old mid c.exchange.new.seat.me pass.number c.args.task pass.task pass.block.items c.exchange.result _ p free below t c.exchange.ensures.2 c.exchange.ensures.3

-- src/board.rt:71:13
pub returns-then-found-eq0-clause-entries : goal.returns-then-found-eq0-clause-entries
returns-then-found-eq0-clause-entries c =
    let t = tells_mine c.args.task _ c.pass.inside.seat.me c.compare_exchange-found.new.seat.me c.compare_exchange-found.ensures.2 c.if-found-eq0.true in
    subst (λ (z : PassState). NoEntry z.view c.args.task) c.pass.view_is t.1

-- src/board.rt:71:13
pub returns-then-found-eq0-clause-alone : goal.returns-then-found-eq0-clause-alone
returns-then-found-eq0-clause-alone c =
    let t = tells_mine c.args.task _ c.pass.inside.seat.me c.compare_exchange-found.new.seat.me c.compare_exchange-found.ensures.2 c.if-found-eq0.true in
    subst (λ (z : PassState). NoEntry z.view c.args.task) c.pass.view_is t.1

-- src/board.rt:57:5
pub returns-then-found-eq1-clause-entries : goal.returns-then-found-eq1-clause-entries
returns-then-found-eq1-clause-entries c =
    let t = tells_held c.args.task _ c.pass.inside.seat.me c.compare_exchange-found.new.seat.me c.compare_exchange-found.ensures.2 c.if-found-eq0.false c.if-found-eq1.true in
    subst (λ (z : PassState). NoEntry z.view c.args.task) c.pass.view_is t.3

-- src/board.rt:57:5
pub returns-then-found-eq1-clause-alone : goal.returns-then-found-eq1-clause-alone
returns-then-found-eq1-clause-alone c =
    let t = tells_held c.args.task _ c.pass.inside.seat.me c.compare_exchange-found.new.seat.me c.compare_exchange-found.ensures.2 c.if-found-eq0.false c.if-found-eq1.true in
    subst (λ (z : PassState). ¬ AllBack z.view) c.pass.view_is t.4

-- src/board.rt:57:5
pub returns-else-found-eq1-clause-entries : goal.returns-else-found-eq1-clause-entries
returns-else-found-eq1-clause-entries c =
    let t = tells_done c.args.task _ c.pass.inside.seat.me c.compare_exchange-found.new.seat.me c.compare_exchange-found.ensures.2 c.if-found-eq0.false c.if-found-eq1.false in
    let i : ℕ = (c.compare_exchange-found.result - 1) / 2 in
    subst (λ (z : PassState). (e : Entry) → HasEntry z.view e → e.task ≡ c.args.task → e.worker ≡ i) c.pass.view_is t.2

-- src/board.rt:57:5
pub returns-else-found-eq1-clause-alone : goal.returns-else-found-eq1-clause-alone
returns-else-found-eq1-clause-alone c =
    let t = tells_done c.args.task _ c.pass.inside.seat.me c.compare_exchange-found.new.seat.me c.compare_exchange-found.ensures.2 c.if-found-eq0.false c.if-found-eq1.false in
    subst (λ (z : PassState). AllBack z.view → HasEntryOf z.view c.args.task) c.pass.view_is t.3
