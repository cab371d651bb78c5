use Rattle.std.proofs.Common.{◌≡◌, ◌∙◌, ◌+◌, ◌++◌, ℕ, List, [], ◌∷◌, length, length-append, Option, ap, subst, arith}
use Rattle.std.specs.Option.{option_to_list}
use lib.ListN.{get_elem?}
use Rattle.steal_table.proofs.Finishes.{at_longer, at_last}
use Rattle.steal_table.specs.declared.view.Size.{Size}
use Rattle.steal_table.specs.Opened.{AllFresh, fresh}
use Rattle.steal_table.specs.Passes.{BoardId, PassState}
use Rattle.round_tests.proofs.by_hand.opened.Goals as goal

last_fresh : (board : BoardId) (n : ℕ) (ps rest : List PassState) (p : PassState) → AllFresh board (n + 1) ps → ps ≡ rest ++ p ∷ [] → (p ≡ fresh board n) × AllFresh board n rest
last_fresh board n ps rest p all is =
    let len : length rest ≡ n = (let a = length-append rest (p ∷ []) in let b = ap length is in let c = all.0 in omega arith) in (
      all.1 n p (ap (λ (l : List PassState). get_elem? l n) is ∙ at_last rest p n len),
      (len, λ i x at. all.1 i x (ap (λ (l : List PassState). get_elem? l i) is ∙ at_longer rest (p ∷ []) i x at)),
    )

both : (c : goal.After-drop-passes) → (c.in-Some.one ≡ fresh c.open-board.result.0 1) × AllFresh c.open-board.result.0 1 c.pop.new.self.items
both c =
    let board : BoardId = c.open-board.result.0 in
    let all = subst (λ (k : ℕ). AllFresh board k c.open-board.result.2.items) (ap (λ (z : Size). z.workers) c.requires) c.open-board.ensures.passes in
    last_fresh board 1 c.open-board.result.2.items c.pop.new.self.items c.in-Some.one all
    (c.pop.ensures.items ∙ ap (λ (o : Option PassState). c.pop.new.self.items ++ option_to_list o) c.in-Some.is)

pub returns-clause-zero : goal.returns-clause-zero
returns-clause-zero c =
    (last_fresh c.open-board.result.0 0 c.pop.new.self.items c.pop-2.new.self.items c.in-Some-pop.zero (both c).1
    (c.pop-2.ensures.items ∙ ap (λ (o : Option PassState). c.pop-2.new.self.items ++ option_to_list o) c.in-Some-pop.is)).0

pub returns-clause-one : goal.returns-clause-one
returns-clause-one c = (both c).0
