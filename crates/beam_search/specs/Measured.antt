-- What a search hands out.
use Rattle.std.specs.Prelude.{◌≡◌, ℕ, ◌<◌, Bool, true, List, length, nat_eq}
use Rattle.std.specs.List.{All, IsDistinct}
use Rattle.ann_defs.specs.declared.near.Near.{Near}
use Rattle.ann_defs.specs.Nearness.{near_of, ids_of}

-- distinct ids of points, each held by the graph, with its squared distance to the query
pub record AreMeasured (points : List (List ℕ)) (query : List ℕ) (held : ℕ → Bool) (nears : List Near) : Type 0 where
  pub in_range : All (λ x. x.id < length points) nears
  pub held_ids : All (λ x. held x.id ≡ true) nears
  pub near : All (λ x. x ≡ near_of points query x.id) nears
  pub distinct : IsDistinct nat_eq (ids_of nears)
