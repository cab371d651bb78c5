-- A point set: a list of points, each a list of numbers below 256.
use Rattle.std.specs.Prelude.{◌≡◌, ℕ, zero, suc, ◌*◌, ◌<◌, ◌≤◌, List, [], ◌∷◌, ◌++◌, length, take, drop}
use Rattle.std.specs.List.{AllByRecursion}
use Rattle.ann_defs.specs.declared.limits.TheConstants.{MAX_POINTS, MAX_DIM, MAX_CELLS}
use Rattle.ann_defs.specs.Distance.{dim_of}

-- n rows of d bytes each, from the front
abbrev pub rows : ℕ → ℕ → List ℕ → List (List ℕ)
rows zero d bytes = []
rows (suc n) d bytes = take d bytes ∷ rows n d (drop d bytes)

-- the numbers of all points, one point after another
abbrev pub cells : List (List ℕ) → List ℕ
cells [] = []
cells (x ∷ X) = x ++ cells X

-- n points of d numbers each are within the limits
pub record AreLimits (n d : ℕ) : Type 0 where
  pub some : 1 ≤ n
  pub count : n ≤ MAX_POINTS
  pub wide : 1 ≤ d
  pub dim : d ≤ MAX_DIM
  pub fit : n * d ≤ MAX_CELLS

-- points of one dimension, within the limits
pub record ArePoints (X : List (List ℕ)) : Type 0 where
  pub limits : AreLimits (length X) (dim_of X)
  pub each : AllByRecursion (λ x. length x ≡ dim_of X) X
  pub bytes : AllByRecursion (AllByRecursion (λ b. b < 256)) X
