-- What the writer writes first.
use Rattle.std.specs.Prelude.{ℕ, List, ◌++◌, length}
use Rattle.std.specs.Int.{w32, to_le_bytes}
use Rattle.ann_defs.specs.Distance.{dim_of}

-- the eight bytes before the points
abbrev pub header_text : List (List ℕ) → List ℕ
header_text X = to_le_bytes w32 (length X) ++ to_le_bytes w32 (dim_of X)
