-- Answers in blocks of one size.
use Rattle.std.specs.Prelude.{ℕ, ◌+◌, ◌*◌, ◌-◌, ◌≤◌, List, [], ◌∷◌, ◌++◌, length, take, drop, replicate, slice_index}
use Rattle.std.specs.List.{flat_map}
use Rattle.ann_defs.specs.declared.near.Near.{Near}

-- the id and the distance of each
abbrev pub words_of : List Near → List ℕ
words_of nears = flat_map (λ x. x.id ∷ x.dist ∷ []) nears

-- how many there are, their words, and zeros
abbrev pub block_of : ℕ → List Near → List ℕ
block_of size nears = (length nears ∷ words_of nears) ++ replicate (size - (2 * length nears + 1)) 0

-- each two words as an id and its distance
abbrev pub pairs_in : List ℕ → List Near
pairs_in [] = []
pairs_in (id ∷ []) = []
pairs_in (id ∷ dist ∷ rest) = record { dist = dist; id = id } ∷ pairs_in rest

-- the answer in a block
abbrev pub answer_in : List ℕ → List Near
answer_in block = take (slice_index block 0) (pairs_in (drop 1 block))

-- a block with the words of its answer
abbrev pub HasAnswer : List ℕ → Type 0
HasAnswer block = 2 * slice_index block 0 + 1 ≤ length block
