-- The blocks that the round of the merges wants.
use Rattle.std.specs.Prelude.{ℕ, ◌+◌, List, map}
use Rattle.batch_insert.specs.declared.pair.Pair.{Pair}
use Rattle.batch_insert.specs.Padded.{padded}
use Rattle.batch_insert.specs.Proposing.{targets_of, proposed_to}
use Rattle.batch_insert.specs.Sources.{sources_in}

-- the merged row of a target
abbrev pub merge_at : (ℕ → List ℕ → List ℕ → List ℕ) → (ℕ → List ℕ) → List Pair → ℕ → List ℕ
merge_at merged row pairs t = merged t (row t) (sources_in (proposed_to pairs t))

-- the merged rows of all targets
abbrev pub merged_blocks : (ℕ → List ℕ → List ℕ → List ℕ) → ℕ → (ℕ → List ℕ) → List Pair → List (List ℕ)
merged_blocks merged bound row pairs = map (λ t. padded (bound + 1) (merge_at merged row pairs t)) (targets_of pairs)
