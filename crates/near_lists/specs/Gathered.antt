-- The candidates of a point.
use Rattle.std.specs.Prelude.{◌≡◌, ◌≢◌, ℕ, ◌<◌, ◌==◌, ◌||◌, if◌then◌else◌, List, [], ◌∷◌, ◌++◌, length, nat_eq}
use Rattle.std.specs.List.{All, IsDistinct, fold}
use Rattle.ann_defs.specs.declared.near.Near.{Near}
use Rattle.ann_defs.specs.Distance.{point}
use Rattle.ann_defs.specs.Nearness.{near_of, ids_of}
use Rattle.ann_defs.specs.Graph.{has, without}
use Rattle.ann_defs.specs.GreedySearch.{is_in}

-- the ids of a set other than p, each once, with their squared distances to point p, in any order
pub record IsGathered (points : List (List ℕ)) (p : ℕ) (set : List ℕ) (nears : List Near) : Type 0 where
  pub in_range : All (λ x. x.id < length points) nears
  pub near : All (λ x. x ≡ near_of points (point points p) x.id) nears
  pub distinct : IsDistinct nat_eq (ids_of nears)
  pub others : All (λ x. x.id ≢ p) nears
  pub members : (u : ℕ) → has (ids_of nears) u ≡ has (without p set) u

-- the list with one more, unless it is p or is there
abbrev pub add_once : ℕ → List Near → Near → List Near
add_once p acc x = if x.id == p || is_in acc x then acc else acc ++ x ∷ []

-- those of a list other than p, each id where it stands first
abbrev pub gathered : ℕ → List Near → List Near
gathered p xs = fold (add_once p) [] xs
