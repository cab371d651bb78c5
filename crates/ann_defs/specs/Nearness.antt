-- Ids by their nearness to a query. A set of ids is a list of them with their distances, in which the order and how often an id stands don't count.
use Rattle.std.specs.Prelude.{ℕ, List, map, take}
use Rattle.std.specs.declared.cmp.Ordering.{Ordering}
use Rattle.std.specs.Ordering.{nat_cmp, ordering_then}
use Rattle.ann_defs.specs.declared.near.Near.{Near}
use Rattle.ann_defs.specs.Distance.{dist_of, point}
use Rattle.ann_defs.specs.Ordered.{ordered}

-- nearer first; ties go to the smaller id
abbrev pub near_cmp : Near → Near → Ordering
near_cmp a b = ordering_then (nat_cmp a.dist b.dist) (nat_cmp a.id b.id)

-- the k nearest of a set in that order, or all of it where it has fewer
abbrev pub least : List Near → ℕ → List Near
least set k = take k (ordered near_cmp set)

-- an id with the distance of its point to the query
abbrev pub near_of : List (List ℕ) → List ℕ → ℕ → Near
near_of points query id = record { dist = dist_of query (point points id); id = id }

abbrev pub all_near : List (List ℕ) → List ℕ → List ℕ → List Near
all_near points query ids = map (near_of points query) ids

abbrev pub ids_of : List Near → List ℕ
ids_of nears = map (λ x. x.id) nears
