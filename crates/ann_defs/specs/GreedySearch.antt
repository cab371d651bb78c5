-- GreedySearch: Subramanya and others, "DiskANN: Fast Accurate Billion-point Nearest Neighbor Search on a Single
-- Node", NeurIPS 2019, Algorithm 1. The same search is SEARCH-LAYER of Malkov and Yashunin, "Efficient and robust
-- approximate nearest neighbor search using Hierarchical Navigable Small World graphs", Algorithm 2.
-- Differences: the starts are a set; L is called `beam`; the k nearest are cut off afterwards; ties go by id.
use Rattle.std.specs.Prelude.{ℕ, zero, suc, Bool, not, ◌==◌, Option, List, [], ◌∷◌, ◌++◌, length, take}
use Rattle.std.specs.List.{find, list_any}
use Rattle.std.specs.Option.{option_map_or}
use Rattle.ann_defs.specs.declared.near.Near.{Near}
use Rattle.ann_defs.specs.Nearness.{least, all_near}

-- the search list, nearest first, and the visited ids, in order of their visits
pub record Walk : Type 0 where
  pub found : List Near
  pub visited : List Near

-- whether an id is among those
abbrev pub is_in : List Near → Near → Bool
is_in nears x = list_any (λ y. x.id == y.id) nears

-- the nearest that was found and not visited
abbrev pub next_of : Walk → Option Near
next_of w = find (λ x. not (is_in w.visited x)) w.found

module _ (points : List (List ℕ)) (row : ℕ → List ℕ) (query : List ℕ) (beam : ℕ) where
  -- p is visited: its row joins what was found, and the nearest of both stay
  abbrev pub visit : Walk → Near → Walk
  visit w p = record { found = least (w.found ++ all_near points query (row p.id)) beam; visited = w.visited ++ p ∷ [] }

  -- at most n visits, one after another, while there is one to visit
  abbrev pub walk : ℕ → Walk → Walk
  walk zero w = w
  walk (suc n) w = option_map_or (λ p. walk n (visit w p)) (next_of w) w

  -- before the first visit
  abbrev pub start_of : List ℕ → Walk
  start_of starts = record { found = least (all_near points query starts) beam; visited = [] }

  -- the whole search: no graph of these points holds more ids than there are points
  abbrev pub search_of : List ℕ → Walk
  search_of starts = walk (length points) (start_of starts)

  -- the search list at the end
  abbrev pub found_of : List ℕ → List Near
  found_of starts = (search_of starts).found

  -- the visited ids at the end
  abbrev pub visited_of : List ℕ → List Near
  visited_of starts = (search_of starts).visited

  -- the k nearest that a search from one start finds
  abbrev pub answer_of : ℕ → ℕ → List Near
  answer_of start k = take k (found_of (start ∷ []))

-- what stands in the first places of two lists
abbrev pub walk_in : List Near → ℕ → List Near → ℕ → Walk
walk_in found len visited count = record { found = take len found; visited = take count visited }
