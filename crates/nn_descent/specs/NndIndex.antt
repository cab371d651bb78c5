-- The index of the pyNNDescent profile: lists from random two-pivot trees, rounds over them, and the search graph.
use Rattle.std.specs.Prelude.{ℕ, zero, suc, nat_le, if◌then◌else◌, List, [], length, replicate}
use Rattle.std.specs.List.{fold, range_with_len}
use Rattle.ann_defs.specs.Distance.{dim_of}
use Rattle.ann_defs.specs.declared.kinds.StartKind.{StartKind}
use Rattle.ann_defs.specs.declared.kinds.StartKind.TheVariants.{First, Medoid}
use Rattle.graph_rows.specs.Index.{Contents, flat_contents}
use Rattle.seeded_order.specs.Medoid.{medoid_of}
use Rattle.pivot_trees.specs.Leaves.{leaves_of, leaf_with}
use Rattle.nn_descent.specs.declared.settings.NndSettings.{NndSettings}
use Rattle.neighbour_lists.specs.ListRound.{with_leaves, next_rows, changed}
use Rattle.nn_descent.specs.SearchGraph.{graph_rows}

-- where searches start
abbrev pub start_of : List (List ℕ) → StartKind → ℕ
start_of points First = 0
start_of points Medoid = medoid_of points

-- the lists with the leaves of tree t
abbrev pub with_tree : List (List ℕ) → NndSettings → List (List ℕ) → ℕ → List (List ℕ)
with_tree points s rows t = with_leaves points s.list (leaf_with (leaves_of points s.seed t s.leaf)) rows

-- the lists with the leaves of the first trees
abbrev pub planted : List (List ℕ) → NndSettings → ℕ → List (List ℕ)
planted points s trees = fold (with_tree points s) (replicate (length points) []) (range_with_len 0 trees)

-- the lists after at most so many rounds, which end after the first that changed at most `floor` entries
abbrev pub improved : List (List ℕ) → ℕ → ℕ → ℕ → List (List ℕ) → List (List ℕ)
improved points list floor zero rows = rows
improved points list floor (suc rounds) rows =
    let next = next_rows points list rows in
    if nat_le (changed points list rows) floor then next else improved points list floor rounds next

-- the lists of a build
abbrev pub lists_of : List (List ℕ) → NndSettings → List (List ℕ)
lists_of points s = improved points s.list s.floor s.rounds (planted points s s.trees)

-- kind 3, with one layer
abbrev pub nnd_index : List (List ℕ) → NndSettings → Contents
nnd_index points s =
    flat_contents 3 (length points) (dim_of points) s.degree (start_of points s.start)
    (graph_rows points (lists_of points s) s.alpha.num s.alpha.den s.degree)
