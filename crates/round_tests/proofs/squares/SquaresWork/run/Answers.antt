use Rattle.std.proofs.Common.{◌*◌, ◌%◌, ◌^◌, ◌<◌, ◌∙◌, ℕ, List, [], ◌∷◌, sym, arith}
use Rattle.std.proofs.lemmas.List.FromFn.{get_or-map-range_with_len, length-map-range_with_len}
use Rattle.round_tests.proofs.squares.SquaresWork.run.Goals as goal

pub returns-clause-out : goal.returns-clause-out
returns-clause-out c =
    let f : ℕ → List ℕ = λ t. t ∷ (t * t % 2 ^ 32) ∷ [] in
    let n : ℕ = c.args.self.now.tasks in
    let lt : c.args.task < n = omega (arith, c.requires.task, length-map-range_with_len f 0 n) in
    c.copy_from_slice.ensures.after ∙ sym (get_or-map-range_with_len f 0 n c.args.task c.args.task [] lt (omega arith))
