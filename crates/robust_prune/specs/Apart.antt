-- Ids that one prune leaves together.
use Rattle.std.specs.Prelude.{◌≡◌, ℕ, ◌&&◌, Bool, true, List, [], ◌∷◌}
use Rattle.std.specs.List.{list_all}
use Rattle.std.specs.Ordering.{is_lt}
use Rattle.ann_defs.specs.declared.near.Near.{Near}
use Rattle.ann_defs.specs.Distance.{point}
use Rattle.ann_defs.specs.Ordered.{Has}
use Rattle.ann_defs.specs.Nearness.{near_cmp, near_of}
use Rattle.robust_prune.specs.Pruned.{leaves}

-- whether c comes before x in nearness to p, and leaves x beside it
abbrev pub is_apart : List (List ℕ) → ℕ → ℕ → ℕ → ℕ → ℕ → Bool
is_apart points num den p c x = is_lt (near_cmp (near_of points (point points p) c) (near_of points (point points p) x)) && leaves points p num den c x

-- whether ids rise by their nearness to p, and each leaves all later ones beside it
abbrev pub are_apart : List (List ℕ) → ℕ → ℕ → ℕ → List ℕ → Bool
are_apart points num den p [] = true
are_apart points num den p (c ∷ ids) = list_all (is_apart points num den p c) ids && are_apart points num den p ids

-- whether each of these leaves all later ones beside it
abbrev pub IsSpread : (ℕ → Near → Bool) → List Near → Type 0
IsSpread beside [] = Unit {0}
IsSpread beside (x ∷ xs) = ((z : Near) → Has xs z → beside x.id z ≡ true) × IsSpread beside xs
