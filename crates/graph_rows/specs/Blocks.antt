-- Rows in blocks of words: the length, the ids, and words that don't count.
use Rattle.std.specs.Prelude.{◌≡◌, ℕ, ◌+◌, ◌*◌, ◌≤◌, List, ◌∷◌, ◌++◌, map, take, drop, length, slice_index}
use Rattle.std.specs.List.{All}
use Rattle.std.specs.List.{range_with_len}
use Rattle.std.specs.Prelude.{slice_range}
use Rattle.ann_defs.specs.declared.limits.TheConstants.{MAX_WORDS, MAX_DEGREE}

-- count parts of dim words each, one after another
abbrev pub rows_of : ℕ → ℕ → List ℕ → List (List ℕ)
rows_of count dim words = map (λ i. slice_range words (i * dim) (i * dim + dim)) (range_with_len 0 count)

-- the row in a block
abbrev pub row_in : List ℕ → List ℕ
row_in block = take (slice_index block 0) (drop 1 block)

-- the block with another row
abbrev pub block_of : List ℕ → List ℕ → List ℕ
block_of ids block = (length ids ∷ ids) ++ drop (length ids + 1) block

abbrev pub rows_in : ℕ → ℕ → List ℕ → List (List ℕ)
rows_in count width words = map row_in (rows_of count (width + 1) words)

pub record AreBlocks (count width : ℕ) (words : List ℕ) : Type 0 where
  pub some : 1 ≤ count
  pub wide : 1 ≤ width
  pub bound : width ≤ MAX_DEGREE
  pub limit : count * (width + 1) ≤ MAX_WORDS
  pub whole : length words ≡ count * (width + 1)
  pub lengths : All (λ block. slice_index block 0 ≤ width) (rows_of count (width + 1) words)
