-- RobustPrune: Subramanya and others, "DiskANN: Fast Accurate Billion-point Nearest Neighbor Search on a Single Node",
-- NeurIPS 2019, Algorithm 2.
-- Differences: a candidate is dropped where num · dist(c, x) ≤ den · dist(p, x), with squared distances, so num / den
-- is the square of the paper's factor; the candidates come without p; p's old row is among them only where the caller
-- puts it there; ties go by id.
use Rattle.std.specs.Prelude.{ℕ, zero, suc, ◌*◌, Bool, nat_lt, List, [], ◌∷◌}
use Rattle.std.specs.List.{filter}
use Rattle.ann_defs.specs.declared.near.Near.{Near}
use Rattle.ann_defs.specs.Distance.{dist_of, point}
use Rattle.ann_defs.specs.Ordered.{ordered}
use Rattle.ann_defs.specs.Nearness.{near_cmp, all_near, ids_of}

-- whether a candidate is spared: num times its distance to a kept one is more than den times that to the point
abbrev pub spares : (num den from_kept from_point : ℕ) → Bool
spares num den from_kept from_point = nat_lt (den * from_point) (num * from_kept)

-- whether x stays beside c
abbrev pub stays : List (List ℕ) → ℕ → ℕ → ℕ → Near → Bool
stays points num den c x = spares num den (dist_of (point points c) (point points x.id)) x.dist

-- the first of the list, and then what is kept of those others that stay beside it, at most r
abbrev pub kept : (ℕ → Near → Bool) → ℕ → List Near → List Near
kept beside zero xs = []
kept beside (suc r) [] = []
kept beside (suc r) (c ∷ xs) = c ∷ kept beside r (filter (beside c.id) xs)

-- the set in ascending order, pruned to at most r
abbrev pub pruned : List (List ℕ) → ℕ → ℕ → ℕ → List Near → List Near
pruned points num den r set = kept (stays points num den) r (ordered near_cmp set)

-- the same of a set of ids, for the point p
abbrev pub pruned_row : List (List ℕ) → ℕ → List ℕ → ℕ → ℕ → ℕ → List ℕ
pruned_row points p set num den r = ids_of (pruned points num den r (all_near points (point points p) set))
