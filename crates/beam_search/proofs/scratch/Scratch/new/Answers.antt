use Rattle.std.proofs.Common.{◌≡◌, ◌+◌, replicate, length, ap, sym, ◌∙◌, subst, arith}
use Rattle.near_lists.specs.Marks.{AreUpTo}
use Rattle.near_lists.proofs.Marking.{up_to_none}
use Rattle.beam_search.proofs.scratch.Scratch.new.Goals as goal

pub invariant_of-result : goal.invariant_of-result
invariant_of-result c =
    let visited : length c.in_ok-visited.visited.items ≡ c.args.n = sym c.in_ok-visited.visited.ok.0 ∙ c.in_ok-visited.ensures.len in
    let room : length c.in_ok-room.room.items ≡ c.args.n + 128 = sym c.in_ok-room.room.ok.0 ∙ c.in_ok-room.ensures.len in
    let marks : length c.in_ok-marks.marks.items ≡ c.args.n = sym c.in_ok-marks.marks.ok.0 ∙ c.in_ok-marks.ensures.len in
    let todo : length c.in_ok-todo.todo.items ≡ 128 = sym c.in_ok-todo.todo.ok.0 ∙ c.in_ok-todo.ensures.len in
    let zero_marks : c.in_ok-marks.marks.items ≡ replicate c.args.n 0 = c.in_ok-marks.ensures.items_if_clones_equal (λ y e. e) in
    (omega arith, omega arith, room ∙ ap (λ k. k + 128) (sym visited), marks ∙ sym visited, subst (AreUpTo 0) (sym zero_marks) (up_to_none c.args.n), todo)
