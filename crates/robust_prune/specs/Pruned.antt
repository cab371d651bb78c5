-- What a prune leaves, in the words of RobustPrune.
use Rattle.std.specs.Prelude.{◌≡◌, ℕ, ◌<◌, ◌⊎◌, Bool, true, false, List, length, slice_index}
use Rattle.std.specs.List.{All, Contains}
use Rattle.ann_defs.specs.Distance.{dist_of, point}
use Rattle.ann_defs.specs.RobustPrune.{spares}

-- whether c leaves x beside it in a row of p
abbrev pub leaves : List (List ℕ) → ℕ → ℕ → ℕ → ℕ → ℕ → Bool
leaves points p num den c x = spares num den (dist_of (point points c) (point points x)) (dist_of (point points p) (point points x))

-- the row of p, of at most degree of these candidates
pub record IsPruned (points : List (List ℕ)) (p num den degree : ℕ) (cands row : List ℕ) : Type 0 where
  -- each kept id is a candidate
  pub among : All (Contains cands) row
  -- no kept id is removed by an earlier one
  pub apart : (i j : ℕ) → i < j → j < length row → leaves points p num den (slice_index row i) (slice_index row j) ≡ true
  -- where the row isn't full, each candidate is kept or removed by a kept one
  pub covered : length row < degree → All (λ x. Contains row x ⊎ ((c : ℕ) × Contains row c × (leaves points p num den c x ≡ false))) cands
