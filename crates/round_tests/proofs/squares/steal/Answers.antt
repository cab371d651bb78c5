use Rattle.std.proofs.Common.{◌∙◌, ◌*◌, ◌%◌, ◌^◌, ℕ, List, [], ◌∷◌, sym, ap}
use Rattle.std.proofs.lemmas.List.FromFn.{length-map-range_with_len}
use Rattle.steal_table.specs.declared.view.Size.{Size}
use Rattle.round_tests.proofs.squares.steal.Goals as goal

pub run-blocks-requires-clause-fits : goal.run-blocks-requires-clause-fits
run-blocks-requires-clause-fits g c κs within =
    let f : ℕ → List ℕ = λ t. t ∷ (t * t % 2 ^ 32) ∷ [] in
    let tasks = ap (λ (z : Size). z.tasks) c.in_ok-round.ensures in (
      tasks ∙ sym c.of-work.ensures ∙ sym (length-map-range_with_len f 0 c.of-work.result.tasks),
      ap (λ (z : Size). z.width) c.in_ok-round.ensures,
    )
