-- What the new rows of a batch propose.
use Rattle.std.specs.Prelude.{ℕ, List, map}
use Rattle.std.specs.List.{flat_map}
use Rattle.batch_insert.specs.declared.pair.Pair.{Pair}

-- p proposes itself to each of its row
abbrev pub pairs_of : ℕ → List ℕ → List Pair
pairs_of p row = map (λ t. record { target = t; source = p }) row

-- all proposals of a batch
abbrev pub proposed : (ℕ → List ℕ) → List ℕ → List Pair
proposed fresh ids = flat_map (λ p. pairs_of p (fresh p)) ids
