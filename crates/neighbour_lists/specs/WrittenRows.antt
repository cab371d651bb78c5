-- New rows of some ids, as a round writes them.
use Rattle.std.specs.Prelude.{ℕ, ◌+◌, if◌then◌else◌, List, map, length}
use Rattle.std.specs.List.{range_with_len}
use Rattle.ann_defs.specs.Graph.{has, row_in}
use Rattle.batch_insert.specs.Padded.{padded}

-- the blocks of some ids
abbrev pub row_blocks : (ℕ → List ℕ) → ℕ → List ℕ → List (List ℕ)
row_blocks row most ids = map (λ v. padded (most + 1) (row v)) ids

-- the rows where those of some ids are the new ones
abbrev pub with_rows : (ℕ → List ℕ) → List ℕ → List (List ℕ) → List (List ℕ)
with_rows row ids rows = map (λ v. if has ids v then row v else row_in rows v) (range_with_len 0 (length rows))
