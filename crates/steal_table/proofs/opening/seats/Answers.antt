use Rattle.std.proofs.Common.{◌≡◌, ◌+◌, ℕ, List, [], ◌∷◌, ◌++◌, length, length-append, sym, ap, ◌∙◌, subst, ⊎_elim, arith}
use mathlib.Core.Option.{some}
use lib.ListN.{get_elem?}
use Rattle.steal_table.specs.Rule.{one_more, next_worker}
use Rattle.steal_table.specs.Passes.{BoardId, PassState}
use Rattle.steal_table.specs.Opened.{AllFresh, fresh}
use Rattle.steal_table.proofs.Finishes.{at_push}
use Rattle.steal_table.proofs.opening.seats.Goals as goal

fresh_push : (b : BoardId) (n : ℕ) (ps : List PassState) (p : PassState) → AllFresh b n ps → p ≡ fresh b n → AllFresh b (n + 1) (ps ++ p ∷ [])
fresh_push b n ps p all is = (
  (let a = length-append ps (p ∷ []) in let c = all.0 in omega arith),
  λ i x at. ⊎_elim (λ (h : get_elem? ps i ≡ some x). all.1 i x h) (λ (h : (i ≡ length ps) × (p ≡ x)). sym h.1 ∙ is ∙ ap (fresh b) (sym (h.0 ∙ all.0))) (at_push ps p x i at),
)

-- src/round.rt:67:5
pub loop-number-preserved : goal.loop-number-preserved
loop-number-preserved c = let b : BoardId = c.args.board.now in let n : ℕ = c.loop-number.number in let own = c.loop-number.invariant.own in record {
  own = c.split-pass.ensures.own ∙ ap (λ (z : PassState). record z { view = one_more z.view }) own;
  passes = subst (AllFresh b (n + 1)) (sym c.in_ok-push.ensures.items)
      (fresh_push b n c.loop-number.passes.items c.split-pass.result c.loop-number.invariant.passes
      (c.split-pass.ensures.result ∙ ap (λ (z : PassState). record { board = b; view = next_worker z.view; block = [] }) own));
}
