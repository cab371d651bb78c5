-- What a grown tree holds.
use Rattle.std.specs.Prelude.{◌≡◌, ℕ, ◌<◌, List, length, slice_index}
use Rattle.std.specs.List.{All}
use Rattle.pivot_trees.specs.Leaves.{place_of_id}

-- how many points it was grown over, and its leaves
pub record Grown : Type 0 where
  pub count : ℕ
  pub leaves : List (List ℕ)

-- leaves of ids that there are, and each id is in one
pub record IsGrown (g : Grown) : Type 0 where
  pub inside : All (λ ids. All (λ u. u < g.count) ids) g.leaves
  pub each : (id : ℕ) → id < g.count → place_of_id g.leaves id < length g.leaves

-- the place of each id's leaf
pub record HasPlaces (count : ℕ) (leaves : List (List ℕ)) (places : List ℕ) : Type 0 where
  pub many : length places ≡ count
  pub first : (id : ℕ) → id < count → slice_index places id ≡ place_of_id leaves id
