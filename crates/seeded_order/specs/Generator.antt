-- Points whose bytes are those of the words of stream 0.
use Rattle.std.specs.Prelude.{ℕ, ◌*◌, ◌/◌, ◌%◌, List, map, slice_index}
use Rattle.std.specs.Int.{w64, to_le_bytes}
use Rattle.std.specs.List.{range_with_len}
use Rattle.bin_files.specs.Rows.{rows}
use Rattle.seeded_order.specs.Words.{word_of}

-- byte number i: of each word in turn its eight bytes, the least significant first
abbrev pub generated_byte : ℕ → ℕ → ℕ
generated_byte seed i = slice_index (to_le_bytes w64 (word_of seed 0 (i / 8))) (i % 8)

-- so many points of so many bytes each, from the byte with this number on
abbrev pub made_points_of : ℕ → ℕ → ℕ → ℕ → List (List ℕ)
made_points_of count dim seed first = rows count dim (map (generated_byte seed) (range_with_len first (count * dim)))
