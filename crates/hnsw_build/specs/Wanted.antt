-- The blocks that the rounds of the new rows want, and what a batch changes in a layer.
use Rattle.std.specs.Prelude.{ℕ, ◌+◌, ◌-◌, ◌*◌, ◌++◌, List, map, length, replicate}
use Rattle.std.specs.List.{filter, flat_map, range_with_len}
use Rattle.batch_insert.specs.Changes.{differing}
use Rattle.batch_insert.specs.Padded.{padded}
use Rattle.hnsw_build.specs.Layering.{level_in, top_of, is_in}
use Rattle.hnsw_build.specs.LayeredInsert.{LayeredBuild, new_row_in, row_next, row_of_layer}

-- the new row of a point in each layer from `from` on up to its level
abbrev pub rows_from : LayeredBuild → List (List (List ℕ)) → ℕ → ℕ → ℕ → List ℕ
rows_from b layers p from count = flat_map (λ l. padded (b.degree + 1) (new_row_in b layers l p)) (range_with_len from count)

-- all new rows of a point
abbrev pub rows_of_point : LayeredBuild → List (List (List ℕ)) → ℕ → List ℕ
rows_of_point b layers p = rows_from b layers p 0 (level_in b.levels p + 1)

-- the same in a block that has room for all layers
abbrev pub block_of_point : LayeredBuild → List (List (List ℕ)) → ℕ → List ℕ
block_of_point b layers p = rows_of_point b layers p ++ replicate ((top_of b.levels - level_in b.levels p) * (b.degree + 1)) 0

-- the blocks of points
abbrev pub point_blocks : LayeredBuild → List (List (List ℕ)) → List ℕ → List (List ℕ)
point_blocks b layers ids = map (block_of_point b layers) ids

-- those of a batch that are in layer l
abbrev pub batch_in : LayeredBuild → List ℕ → ℕ → List ℕ
batch_in b batch l = filter (is_in b.levels l) batch

-- the rows of layer l that a batch changes, with their ids
abbrev pub change_in : LayeredBuild → List (List (List ℕ)) → List ℕ → ℕ → List (ℕ × List ℕ)
change_in b layers batch l = differing (row_of_layer layers l) (row_next b layers batch l) (range_with_len 0 (length b.points))
