-- The blocks that the round of the new rows wants.
use Rattle.std.specs.Prelude.{ℕ, ◌+◌, List, map}
use Rattle.ann_defs.specs.BatchInsert.{Build, new_row_of}
use Rattle.batch_insert.specs.Padded.{padded}

-- the new rows of a batch
abbrev pub new_blocks : Build → List (List ℕ) → List ℕ → List (List ℕ)
new_blocks b rows batch = map (λ p. padded (b.degree + 1) (new_row_of b rows p)) batch
