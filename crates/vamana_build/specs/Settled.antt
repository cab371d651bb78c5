-- How many ids at the front of a row stay together in a prune.
use Rattle.std.specs.Prelude.{◌≡◌, ℕ, ◌<◌, ◌&&◌, Bool, true, if◌then◌else◌, nat_eq, nat_le, List, take, length, slice_index}
use lib.Pointwise.{pointwise}
use Rattle.ann_defs.specs.BatchInsert.{Build}
use Rattle.ann_defs.specs.Graph.{has}
use Rattle.robust_prune.specs.Apart.{are_apart}

-- whether the first `count` ids of a row of u are apart by the factor of a build
abbrev pub are_settled : Build → ℕ → List ℕ → ℕ → Bool
are_settled b u row count = nat_le count (length row) && are_apart b.points b.num b.den u (take count row)

-- how many of the row of u, as a batch lays it: all of a new row
abbrev pub laid_count : List ℕ → List ℕ → ℕ → List ℕ → ℕ
laid_count batch counts u row = if has batch u then length row else slice_index counts u

-- a count for each point
pub record AreSettled (b : Build) (row : ℕ → List ℕ) (counts : List ℕ) : Type 0 where
  pub whole : length counts ≡ length b.points
  pub apart : (u : ℕ) → u < length b.points → are_settled b u (row u) (slice_index counts u) ≡ true

-- whether a row begins with another
abbrev pub begins : List ℕ → List ℕ → Bool
begins row laid = pointwise nat_eq laid (take (length laid) row)
