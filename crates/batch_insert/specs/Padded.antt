-- Rows in blocks of one size.
use Rattle.std.specs.Prelude.{ℕ, ◌+◌, ◌-◌, List, [], ◌∷◌, ◌++◌, length, replicate, slice_index_or}
use Rattle.graph_rows.specs.Blocks.{row_in}
use Rattle.graph_rows.specs.Layers.{place_in}

-- the length of the row, its ids, and zeros
abbrev pub padded : ℕ → List ℕ → List ℕ
padded size ids = (length ids ∷ ids) ++ replicate (size - (length ids + 1)) 0

-- the row of an id, where each block has the row of the id at its place
abbrev pub row_by_id : List ℕ → List (List ℕ) → ℕ → List ℕ
row_by_id ids blocks id = row_in (slice_index_or blocks (place_in ids id) [])
