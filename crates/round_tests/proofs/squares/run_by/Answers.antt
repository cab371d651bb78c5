use Rattle.std.proofs.Common.{◌≡◌, ◌*◌, ◌%◌, ◌^◌, ℕ, List, [], ◌∷◌, arith}
use Rattle.std.proofs.lemmas.List.FromFn.{length-map-range_with_len}
use Rattle.round_tests.proofs.squares.run_by.Goals as goal

pub run_round-requires-clause-small : goal.run_round-requires-clause-small
run_round-requires-clause-small g c κs within =
    let f : ℕ → List ℕ = λ t. t ∷ (t * t % 2 ^ 32) ∷ [] in
    let tasks : c.of-work.result.tasks ≡ c.args.tasks = c.of-work.ensures in
    let few = c.requires.1 in
    omega (arith, length-map-range_with_len f 0 c.of-work.result.tasks, tasks, few)
