-- Lists in memory, and the blocks of their parts.
use Rattle.std.specs.Prelude.{ℕ, ◌+◌, ◌-◌, ◌<◌, ◌≤◌, List, ◌∷◌, ◌++◌, map, length, replicate, Vec}
use Rattle.std.specs.List.{All}
use Rattle.std.specs.declared.alloc.Global.{Global}
use Rattle.pivot_trees.specs.Leaves.{splits_from}

-- the lists that vectors hold
abbrev pub lists_of : List (Vec ℕ Global) → List (List ℕ)
lists_of vectors = map (λ v. v.items) vectors

-- the length of the left part, both parts, and zeros
abbrev pub block_of : ℕ → List ℕ × List ℕ → List ℕ
block_of width parts = (length parts.0 ∷ (parts.0 ++ parts.1)) ++ replicate (width - (length (parts.0 ++ parts.1) + 1)) 0

-- the blocks of lists numbered from j on
abbrev pub blocks_from : List (List ℕ) → ℕ → ℕ → ℕ → ℕ → ℕ → List (List ℕ) → List (List ℕ)
blocks_from points seed tree depth width j lists = map (block_of width) (splits_from points seed tree depth j lists)

-- lists that can be split: of ids that there are, and with two of them at least
pub record AreSplittable (count : ℕ) (lists : List (List ℕ)) : Type 0 where
  pub inside : All (λ ids. All (λ u. u < count) ids) lists
  pub some : All (λ ids. 2 ≤ length ids) lists

-- and whose parts fit a block
pub record FitBlocks (count width : ℕ) (lists : List (List ℕ)) : Type 0 where
  pub lists_are : AreSplittable count lists
  pub fit : All (λ ids. length ids + 1 ≤ width) lists
