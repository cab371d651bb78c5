-- The candidates of a prune.
use Rattle.std.specs.Prelude.{◌≡◌, ◌≢◌, ℕ, ◌<◌, List, length, nat_eq}
use Rattle.std.specs.List.{All, IsDistinct}
use Rattle.ann_defs.specs.declared.near.Near.{Near}
use Rattle.ann_defs.specs.Distance.{point}
use Rattle.ann_defs.specs.Nearness.{near_of, ids_of}

-- distinct points other than p, with their distances to p
pub record AreCandidates (points : List (List ℕ)) (p : ℕ) (cands : List Near) : Type 0 where
  pub in_range : All (λ x. x.id < length points) cands
  pub near : All (λ x. x ≡ near_of points (point points p) x.id) cands
  pub distinct : IsDistinct nat_eq (ids_of cands)
  pub others : All (λ x. x.id ≢ p) cands
