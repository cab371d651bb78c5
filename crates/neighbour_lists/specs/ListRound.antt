-- Lists of nearest neighbours, improved from neighbours of neighbours: Dong, Moses and Li, "Efficient K-Nearest Neighbor
-- Graph Construction for Generic Similarity Measures", WWW 2011, Algorithm 1 NN-DESCENT, in the form of pyNNDescent.
-- Differences: rounds are synchronous, so each list is computed from the lists before the round; no neighbour is sampled;
-- the reverse neighbours of a point are its nearest ones, at most as many as a list is long; a point's neighbours of
-- neighbours join its own list, not each other's; ties go by id.
use Rattle.std.specs.Prelude.{ℕ, not, List, ◌++◌, map, length}
use Rattle.std.specs.List.{filter, flat_map, range_with_len, sum_by}
use Rattle.ann_defs.specs.Distance.{point}
use Rattle.ann_defs.specs.Nearness.{least, all_near, ids_of}
use Rattle.ann_defs.specs.Graph.{has, without, row_in}

-- the nearest of some ids to v, without v, at most as many as a list is long, nearest first
abbrev pub nearest_of : List (List ℕ) → ℕ → ℕ → List ℕ → List ℕ
nearest_of points list v ids = ids_of (least (all_near points (point points v) (without v ids)) list)

-- the ids whose row holds v, ascending
abbrev pub sources_of : List (List ℕ) → ℕ → List ℕ
sources_of rows v = filter (λ u. has (row_in rows u) v) (range_with_len 0 (length rows))

module _ (points : List (List ℕ)) (list : ℕ) (rows : List (List ℕ)) where
  -- the reverse neighbours of v: the nearest of the ids whose list holds v
  abbrev pub reverse_of : ℕ → List ℕ
  reverse_of v = nearest_of points list v (sources_of rows v)

  -- the neighbourhood of v
  abbrev pub around : ℕ → List ℕ
  around v = row_in rows v ++ reverse_of v

  -- what v may take into its list: its list, and the neighbourhoods of its neighbourhood
  abbrev pub reached : ℕ → List ℕ
  reached v = row_in rows v ++ flat_map around (around v)

  -- the list of v after the round
  abbrev pub next_row : ℕ → List ℕ
  next_row v = nearest_of points list v (reached v)

  -- all lists after the round
  abbrev pub next_rows : List (List ℕ)
  next_rows = map next_row (range_with_len 0 (length points))

  -- how many ids the list of v has after the round that it didn't have before
  abbrev pub entered : ℕ → ℕ
  entered v = length (filter (λ u. not (has (row_in rows v) u)) (next_row v))

  -- how many entries of all lists changed
  abbrev pub changed : ℕ
  changed = sum_by entered (range_with_len 0 (length points))

-- each list becomes the nearest of itself and the leaf of its point
abbrev pub with_leaves : List (List ℕ) → ℕ → (ℕ → List ℕ) → List (List ℕ) → List (List ℕ)
with_leaves points list leaf rows = map (λ v. nearest_of points list v (row_in rows v ++ leaf v)) (range_with_len 0 (length points))
