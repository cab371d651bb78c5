-- The reverse edges of a target.
use Rattle.std.specs.Prelude.{ℕ, ◌==◌, not, List, ◌++◌, map, take}
use Rattle.std.specs.List.{filter, flat_map}
use Rattle.ann_defs.specs.Graph.{has, row_in}
use Rattle.neighbour_lists.specs.ListRound.{reverse_of}
use Rattle.neighbour_lists.specs.declared.edge.Edge.{Edge}

-- the sources of the edges to a target, nearest first, at most so many
abbrev pub reverse_in : List Edge → ℕ → ℕ → List ℕ
reverse_in edges most u = take most (map (λ e. e.source.id) (filter (λ e. e.target == u) edges))

-- the sources of edges
abbrev pub edge_ids : List Edge → List ℕ
edge_ids edges = map (λ e. e.source.id) edges

-- the reverse neighbours of u that its list doesn't hold
abbrev pub others_of : List (List ℕ) → ℕ → List (List ℕ) → ℕ → List ℕ
others_of points list rows u = filter (λ w. not (has (row_in rows u) w)) (reverse_of points list rows u)

-- the neighbourhood of u, each id once
abbrev pub joined : List (List ℕ) → ℕ → List (List ℕ) → ℕ → List ℕ
joined points list rows u = row_in rows u ++ others_of points list rows u

-- what v may take into its list, as it is offered: the same members as what it reaches
abbrev pub met : List (List ℕ) → ℕ → List (List ℕ) → ℕ → List ℕ
met points list rows v = row_in rows v ++ flat_map (joined points list rows) (joined points list rows v)
