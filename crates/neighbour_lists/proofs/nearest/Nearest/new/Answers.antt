use Rattle.std.proofs.Common.{◌≡◌, ◌+◌, replicate, length, sym, ◌∙◌, subst, arith}
use Rattle.near_lists.specs.Marks.{AreUpTo}
use Rattle.near_lists.proofs.Marking.{up_to_none}
use Rattle.neighbour_lists.proofs.nearest.Nearest.new.Goals as goal

pub invariant_of-result : goal.invariant_of-result
invariant_of-result c =
    let list : length c.in_ok-list.list.items ≡ c.args.most + 1 = sym c.in_ok-list.list.ok.0 ∙ c.in_ok-list.ensures.len in
    let todo : length c.in_ok-todo.todo.items ≡ 128 = sym c.in_ok-todo.todo.ok.0 ∙ c.in_ok-todo.ensures.len in
    let zero_marks : c.in_ok-marks.marks.items ≡ replicate c.args.n 0 = c.in_ok-marks.ensures.items_if_clones_equal (λ y e. e) in
    (list, omega arith, subst (AreUpTo 0) (sym zero_marks) (up_to_none c.args.n), todo)
