-- What a report says.
use Rattle.std.specs.Prelude.{ℕ, List, count_by, ◌==◌}

-- the owner of each task, in the order of the tasks, and the number of workers, which stands for the sweep
pub record Owned : Type 0 where
  pub owners : List ℕ
  pub workers : ℕ

-- how many tasks this number ran
abbrev pub tasks_run : Owned → ℕ → ℕ
tasks_run r i = count_by (λ j. j == i) r.owners
