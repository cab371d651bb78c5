use Rattle.std.proofs.Common.{◌∙◌, ap}
use Rattle.steal_table.specs.Passes.{PassState}
use Rattle.round_tests.proofs.by_hand.finish_with_seven.Goals as goal

pub returns-clause-board : goal.returns-clause-board
returns-clause-board c = ap (λ (z : PassState). z.board) (c.finish.ensures 0 c.requires.holds) ∙ c.requires.board

pub returns-clause-free : goal.returns-clause-free
returns-clause-free c = ap (λ (z : PassState). z.view.held) (c.finish.ensures 0 c.requires.holds)

pub returns-clause-number : goal.returns-clause-number
returns-clause-number c = ap (λ (z : PassState). z.view.number) (c.finish.ensures 0 c.requires.holds)
