-- What the definitions amount to, in the words of the published algorithms.
use Rattle.std.specs.Prelude.{◌≡◌, ℕ, suc, ◌<◌, Bool, true, not, ◌&&◌, ◌==◌, None, List, [], ◌∷◌, length}
use Rattle.std.specs.List.{All, filter}
use Rattle.ann_defs.specs.declared.near.Near.{Near}
use Rattle.ann_defs.specs.Distance.{dist_of, point}
use Rattle.ann_defs.specs.Nearness.{least, all_near}
use Rattle.ann_defs.specs.Graph.{has, IsGraph, AreGoodRows}
use Rattle.ann_defs.specs.GreedySearch.{search_of, next_of}
use Rattle.ann_defs.specs.RobustPrune.{spares, pruned_row}
use Rattle.ann_defs.specs.BatchInsert.{Build, graph_after}

-- in a graph of the points no found id is left to visit when a search is over
abbrev pub SearchEnds : Type 0
SearchEnds = (points : List (List ℕ)) (held : ℕ → Bool) (row : ℕ → List ℕ) (query : List ℕ) (beam : ℕ) (starts : List ℕ)
    → IsGraph (length points) held row → All (λ u. held u ≡ true) starts → next_of (search_of points row query beam starts) ≡ None

-- two lists have the same members
abbrev pub AreAlike : List ℕ → List ℕ → Type 0
AreAlike xs ys = (u : ℕ) → has xs u ≡ has ys u

-- the nearest of a set are those of its members
abbrev pub LeastSeesMembers : Type 0
LeastSeesMembers = (points : List (List ℕ)) (query xs ys : List ℕ) (k : ℕ)
    → AreAlike xs ys → least (all_near points query xs) k ≡ least (all_near points query ys) k

-- only members count among the starts and in each row
abbrev pub SearchSeesMembers : Type 0
SearchSeesMembers = (points : List (List ℕ)) (row other : ℕ → List ℕ) (query : List ℕ) (beam : ℕ) (starts others : List ℕ)
    → ((u : ℕ) → AreAlike (row u) (other u)) → AreAlike starts others → search_of points row query beam starts ≡ search_of points other query beam others

-- only members count among the candidates
abbrev pub PruneSeesMembers : Type 0
PruneSeesMembers = (points : List (List ℕ)) (p : ℕ) (xs ys : List ℕ) (num den degree : ℕ)
    → AreAlike xs ys → pruned_row points p xs num den degree ≡ pruned_row points p ys num den degree

-- whether x, which isn't c, is not removed by c
abbrev pub outlives : List (List ℕ) → ℕ → ℕ → ℕ → ℕ → ℕ → Bool
outlives points p num den c x = not (x == c) && spares num den (dist_of (point points c) (point points x)) (dist_of (point points p) (point points x))

-- the row of a set begins with the least candidate, and goes on with the row of those that it doesn't remove
abbrev pub row_by_least : List (List ℕ) → ℕ → List ℕ → ℕ → ℕ → ℕ → List Near → List ℕ
row_by_least points p set num den r [] = []
row_by_least points p set num den r (c ∷ _) = c.id ∷ pruned_row points p (filter (outlives points p num den c.id) set) num den r

-- a prune takes the least candidate, removes those that it covers, and goes on with the rest
abbrev pub PruneTakesLeast : Type 0
PruneTakesLeast = (points : List (List ℕ)) (p : ℕ) (set : List ℕ) (num den r : ℕ)
    → (pruned_row points p set num den 0 ≡ [])
    × (pruned_row points p set num den (suc r) ≡ row_by_least points p set num den r (least (all_near points (point points p) set) 1))

-- the graph after any number of batches has a good row for each point
abbrev pub GraphsStayGood : Type 0
GraphsStayGood = (b : Build) (order : List ℕ) (cap k : ℕ) → b.start < length b.points → AreGoodRows (length b.points) b.degree (graph_after b order cap k)
