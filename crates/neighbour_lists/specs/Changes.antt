-- How many entries differ between two states of the lists.
use Rattle.std.specs.Prelude.{ℕ, not, List, length}
use Rattle.std.specs.List.{filter}
use Rattle.ann_defs.specs.Graph.{has, row_in}

-- how many ids the new list of v has that the old one hasn't
abbrev pub entered_between : List (List ℕ) → List (List ℕ) → ℕ → ℕ
entered_between old new v = length (filter (λ u. not (has (row_in old v) u)) (row_in new v))
