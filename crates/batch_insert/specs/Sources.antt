-- The sources of a target.
use Rattle.std.specs.Prelude.{◌≢◌, ℕ, ◌<◌, List, map, nat_eq}
use Rattle.std.specs.List.{All, IsDistinct}
use Rattle.batch_insert.specs.declared.pair.Pair.{Pair}

-- the sources of pairs
abbrev pub sources_in : List Pair → List ℕ
sources_in pairs = map (λ p. p.source) pairs

-- distinct points other than the target
pub record AreSources (n t : ℕ) (sources : List ℕ) : Type 0 where
  pub inside : All (λ v. v < n) sources
  pub distinct : IsDistinct nat_eq sources
  pub others : All (λ v. v ≢ t) sources
