-- Counts of faults, as numbers that do not fall and stop at the last value of u64.
use Rattle.std.specs.Prelude.{◌⊎◌, ℕ, ◌+◌, ◌-◌, ◌<◌, ◌≤◌, ◌^◌, min, List}

-- one more, up to the last value of u64
abbrev pub next_count : ℕ → ℕ
next_count n = min (n + 1) (2 ^ 64 - 1)

-- the count rose, or stands at the last value of u64
abbrev pub Rose : ℕ → ℕ → Type 0
Rose old new = (old < new) ⊎ (2 ^ 64 ≤ new + 1)

-- no file's count fell
abbrev pub NoneFell : (List ℕ → ℕ) → (List ℕ → ℕ) → Type 0
NoneFell old new = (name : List ℕ) → old name ≤ new name
