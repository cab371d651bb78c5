-- What the bounds of batches amount to.
use Rattle.std.specs.Prelude.{◌≡◌, ℕ, ◌+◌, ◌<◌, ◌≤◌, ◌↔◌}
use Rattle.ann_defs.specs.BatchInsert.{bound_at, total_of}

-- no bound passes n, and each is greater than the one before while that is below n
abbrev pub BoundsRise : Type 0
BoundsRise = (n cap k : ℕ) → 1 ≤ n → 1 ≤ cap
    → (bound_at n cap k ≤ n) × (bound_at n cap k < n → bound_at n cap k < bound_at n cap (k + 1))

-- a bound is n exactly from the total on
abbrev pub BoundsEndAtTotal : Type 0
BoundsEndAtTotal = (n cap k : ℕ) → 1 ≤ n → 1 ≤ cap → ((bound_at n cap k ≡ n) ↔ (total_of n cap ≤ k))

-- there is a batch, and there are no more batches than points
abbrev pub TotalIsWithin : Type 0
TotalIsWithin = (n cap : ℕ) → 1 ≤ n → 1 ≤ cap → (1 ≤ total_of n cap) × (total_of n cap ≤ n)
