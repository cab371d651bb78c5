use Rattle.std.proofs.Common.{◌∙◌, ap, sym, arith}
use Rattle.steal_table.specs.declared.view.Size.{Size}
use Rattle.steal_table.specs.Passes.{PassState}
use Rattle.steal_pool.proofs.StolenRounds.{joined_back, all_came_back}
use Rattle.round_tests.proofs.by_hand.join_both.Goals as goal

pub returns-clause-back : goal.returns-clause-back
returns-clause-back c =
    let first = joined_back c.args.own.now c.args.zero c.join.new.own 0 c.join.ensures.joined c.requires.zero.2 (λ k lt. absurd (omega arith)) in
    let second = joined_back c.join.new.own c.args.one c.join-2.new.own 1 c.join-2.ensures.joined c.requires.one.2 (λ k lt. first k (omega arith)) in
    let number = ap (λ (z : PassState). z.view.number) c.join-2.ensures.joined ∙ ap (λ (z : PassState). z.view.number) c.join.ensures.joined ∙ ap (λ (z : PassState). z.view.number) c.requires.own in
    let size = ap (λ (z : PassState). z.view.size) c.join-2.ensures.joined ∙ ap (λ (z : PassState). z.view.size) c.join.ensures.joined ∙ ap (λ (z : PassState). z.view.size) c.requires.own in
    all_came_back c.args.board.now c.join-2.new.own.view 2 number size (sym (ap (λ (z : Size). z.workers) c.requires.size)) (λ k lt. second k (omega arith))
