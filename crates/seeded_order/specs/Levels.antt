-- The levels of HNSW, by the leading zero bits of the words of stream 2.
use Rattle.std.specs.Prelude.{ℕ, ◌/◌, List, map, min}
use Rattle.std.specs.Int.{w64, leading_zeros}
use Rattle.std.specs.List.{range_with_len}
use Rattle.seeded_order.specs.Words.{word_of}

-- one level for every so many leading zero bits, and at most the greatest
abbrev pub level_of : ℕ → ℕ → ℕ → ℕ
level_of bits max word = min max (leading_zeros w64 word / bits)

-- the level of each id below n
abbrev pub levels_of : ℕ → ℕ → ℕ → ℕ → List ℕ
levels_of n seed bits max = map (λ id. level_of bits max (word_of seed 2 id)) (range_with_len 0 n)
