use Rattle.std.proofs.Common.{arith, sym, ap, ◌∙◌, ◌≡◌, ◌<◌, Some, ℕ, ◌+◌, ◌*◌, List, [], ◌∷◌}
use Rattle.atomic_table.specs.Table.{rest}
use Rattle.steal_table.specs.Passes.{BoardId, PassState}
use Rattle.steal_table.specs.Rule.{Block, entry}
use Rattle.steal_table.specs.Steps.{Seated, with_entry}
use Rattle.steal_table.specs.declared.view.View.{View}
use Rattle.steal_table.proofs.Finishes.{finishes, tells_finish}
use Rattle.steal_table.proofs.Holdings.{slot_out, put_back, finish_sound}
use Rattle.steal_table.proofs.board.Board.finish.Goals as goal

-- src/board.rt:94:13
pub exchange-empty-requires : goal.exchange-empty-requires
exchange-empty-requires c =
    let b = ap (λ (z : PassState). z.board) c.pass.view_is ∙ c.requires.board ∙ sym c.self.view_is in let p = c.pass.invariant in let pass = c.pass.inside in let t = c.in-Some.task in
    let out = slot_out pass.of pass.seat.me pass.number pass.task pass.block.items t p (p.2 ∙ c.in-Some.is) in
    (ap (λ (z : BoardId). z.table) b, (out.1.0, out.1.1 ∙ ap (λ (l : List (ℕ × Block)). (t, out.1.0) ∷ l) (sym (ap rest out.1.1))))

-- src/board.rt:95:9
pub swap-requires : goal.swap-requires
swap-requires c =
    let b = ap (λ (z : PassState). z.board) c.pass.view_is ∙ c.requires.board ∙ sym c.self.view_is in let p = c.pass.invariant in let pass = c.pass.inside in let t = c.in-Some.task in
    let out = slot_out pass.of pass.seat.me pass.number pass.task pass.block.items t p (p.2 ∙ c.in-Some.is) in
    let x = c.exchange-empty.ensures in let mid = c.exchange-empty.new.seat.me in
    let put = put_back pass.seat.me mid t out.1.0 c.replace-block.result out.1.1 x.3 in
    let tasks = ap (λ (z : BoardId). z.size.tasks) b in let lt : t < pass.of.tasks = out.0 in let words = c.self.invariant.1 in (
      x.0 ∙ ap (λ (z : BoardId). z.table) b,
      omega arith,
      finishes _ _ _ t _ mid c.replace-block.result put.0 (ap (λ (z : View). z.live) put.1 ∙ p.0) (ap (λ (z : View). z.held) put.1 ∙ p.2 ∙ c.in-Some.is)
          (ap (λ (n : ℕ). 2 * n + 2) (c.from.ensures ∙ sym p.1 ∙ ap (λ (z : View). z.number) (sym put.1))),
    )

-- src/board.rt:83:5
pub invariant_of-pass : goal.invariant_of-pass
invariant_of-pass c =
    let p = c.pass.invariant in let pass = c.pass.inside in let t = c.in-Some.task in
    let out = slot_out pass.of pass.seat.me pass.number pass.task pass.block.items t p (p.2 ∙ c.in-Some.is) in
    let mid = c.exchange-empty.new.seat.me in let y = c.replace-block.result in
    let put = put_back pass.seat.me mid t out.1.0 y out.1.1 c.exchange-empty.ensures.3 in
    let now = tells_finish t mid c.swap.new.seat.me y c.swap.ensures.2 put.0 in
    let s = finish_sound pass.of pass.seat.me c.swap.new.seat.me pass.number t pass.task pass.block.items (entry t pass.seat.me.0.number y.items) p
    (now ∙ ap (λ (z : View). (with_entry z (entry t z.number y.items), [])) put.1) in
    (s.0, s.1, s.2, s.3, (s.4.0, ap (λ (z : Block). z.items) c.replace-block.ensures.after ∙ c.new.ensures.items))

-- src/board.rt:83:5
pub returns : goal.returns
returns c u holds =
    let p = c.pass.invariant in let pass = c.pass.inside in let t = c.in-Some.task in
    let out = slot_out pass.of pass.seat.me pass.number pass.task pass.block.items t p (p.2 ∙ c.in-Some.is) in
    let mid = c.exchange-empty.new.seat.me in let y = c.replace-block.result in
    let put = put_back pass.seat.me mid t out.1.0 y out.1.1 c.exchange-empty.ensures.3 in
    let now = tells_finish t mid c.swap.new.seat.me y c.swap.ensures.2 put.0 in
    let same : Some t ≡ Some u = sym (p.2 ∙ c.in-Some.is) ∙ ap (λ (z : PassState). z.view.held) c.pass.view_is ∙ holds in
    let is : t ≡ u = some_same t u same in
    let view : c.swap.new.seat.me.0 ≡ with_entry pass.seat.me.0 (entry u pass.seat.me.0.number pass.block.items) =
    ap (λ (z : Seated). z.0) now ∙ ap (λ (z : View). with_entry z (entry t z.number y.items)) put.1 ∙ (λ i. with_entry pass.seat.me.0 (entry (is i) pass.seat.me.0.number (c.replace-block.ensures.value i).items)) in
    let table = c.swap.ensures.0 ∙ c.exchange-empty.ensures.0 in
    let empty = ap (λ (z : Block). z.items) c.replace-block.ensures.after ∙ c.new.ensures.items in
    (λ i. record { board = record { table = table i; size = pass.of }; view = view i; block = empty i })
    ∙ ap (λ (z : PassState). record { board = z.board; view = with_entry z.view (entry u z.view.number z.block); block = [] }) c.pass.view_is
  where
    some_same : (t u : ℕ) → Some t ≡ Some u → t ≡ u
    some_same t u e = cc
