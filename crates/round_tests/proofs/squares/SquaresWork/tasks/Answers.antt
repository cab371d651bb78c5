use Rattle.std.proofs.Common.{◌*◌, ◌%◌, ◌^◌, ℕ, List, [], ◌∷◌, sym}
use Rattle.std.proofs.lemmas.List.FromFn.{length-map-range_with_len}
use Rattle.round_tests.proofs.squares.SquaresWork.tasks.Goals as goal

pub returns : goal.returns
returns c = let f : ℕ → List ℕ = λ t. t ∷ (t * t % 2 ^ 32) ∷ [] in sym (length-map-range_with_len f 0 c.args.self.now.tasks)
