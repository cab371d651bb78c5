-- What a round met, and what is new since. An id that a list of nearest ids was offered changes nothing when it is offered
-- again: it stands in the list, or as many nearer ones do.
use Rattle.std.specs.Prelude.{◌≡◌, ℕ, ◌<◌, not, List, ◌∷◌, ◌++◌, map, length}
use Rattle.std.specs.List.{All, filter, flat_map, range_with_len}
use Rattle.ann_defs.specs.Graph.{has, row_in}
use Rattle.ann_defs.specs.Ordered.{Has}
use Rattle.neighbour_lists.specs.ListRound.{nearest_of}

-- a neighbourhood in two parts: the ids of a list, and others
abbrev pub parts : List (List ℕ) → List (List ℕ) → ℕ → List ℕ
parts rows others u = row_in rows u ++ row_in others u

-- those ids of the row of u that a neighbourhood doesn't have
abbrev pub row_without : List (List ℕ) → List (List ℕ) → List (List ℕ) → ℕ → List ℕ
row_without seen_rows seen_others rows u = filter (λ w. not (has (parts seen_rows seen_others u) w)) (row_in rows u)

-- what is kept of the neighbourhoods of n points, in two parts: the ids that other neighbourhoods don't have
pub record AreWithout (n : ℕ) (seen_rows seen_others all all_others kept kept_others : List (List ℕ)) : Type 0 where
  pub rows : kept ≡ map (row_without seen_rows seen_others all) (range_with_len 0 n)
  pub others : kept_others ≡ map (row_without seen_rows seen_others all_others) (range_with_len 0 n)

-- offering w to a list of v changes nothing, whatever else is offered
abbrev pub IsPast : List (List ℕ) → ℕ → ℕ → List ℕ → ℕ → Type 0
IsPast points list v row w = (ids : List ℕ) → nearest_of points list v (row ++ w ∷ ids) ≡ nearest_of points list v (row ++ ids)

-- the neighbourhoods of a neighbourhood that was seen are past
abbrev pub ArePast : List (List ℕ) → ℕ → List (List ℕ) → List (List ℕ) → List (List ℕ) → Type 0
ArePast points list rows seen_rows seen_others =
    (v u w : ℕ) → v < length points → Has (parts seen_rows seen_others v) u → Has (parts seen_rows seen_others u) w
    → IsPast points list v (row_in rows v) w

-- rows of points
pub record ArePoints (n : ℕ) (rows : List (List ℕ)) : Type 0 where
  pub count : length rows ≡ n
  pub inside : (u : ℕ) → u < n → All (λ w. w < n) (row_in rows u)

-- neighbourhoods of points, in two parts
pub record AreHoods (n : ℕ) (lists sources : List (List ℕ)) : Type 0 where
  pub rows : ArePoints n lists
  pub others : ArePoints n sources

-- what v is offered: its list, of each old neighbour what is new to that one, and of each new neighbour all
abbrev pub offered : List (List ℕ) → List (List ℕ) → List (List ℕ) → List (List ℕ) → List (List ℕ) → List (List ℕ) → ℕ → List ℕ
offered rows others fresh fresh_others stale stale_others v =
    (row_in rows v ++ flat_map (parts fresh fresh_others) (parts stale stale_others v)) ++ flat_map (parts rows others) (parts fresh fresh_others v)
