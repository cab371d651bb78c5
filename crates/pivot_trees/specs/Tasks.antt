-- What a round of splits works on.
use Rattle.std.specs.Prelude.{ℕ, List}
use Rattle.pivot_trees.specs.declared.splits.Splits.{Splits}
use Rattle.pivot_trees.specs.Blocks.{lists_of, blocks_from}
use Rattle.pivot_trees.specs.Leaves.{splits_from, parts_from}

-- the blocks that a round of splits wants
abbrev pub blocks_in : Splits → List (List ℕ)
blocks_in w = blocks_from w.splitter.now.points.now.vectors w.splitter.now.seed w.splitter.now.tree w.splitter.now.depth w.width w.number (lists_of w.lists.now)

-- the splits of its lists
abbrev pub splits_in : Splits → List (List ℕ × List ℕ)
splits_in w = splits_from w.splitter.now.points.now.vectors w.splitter.now.seed w.splitter.now.tree w.splitter.now.depth w.number (lists_of w.lists.now)

-- the parts of its lists
abbrev pub parts_in : Splits → List (List ℕ)
parts_in w = parts_from w.splitter.now.points.now.vectors w.splitter.now.seed w.splitter.now.tree w.splitter.now.depth w.number (lists_of w.lists.now)
