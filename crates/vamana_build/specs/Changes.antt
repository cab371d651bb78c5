-- What a batch changes: the rows that differ.
use Rattle.std.specs.Prelude.{ℕ, ◌+◌, List, [], length, slice_index_or}
use Rattle.std.specs.List.{range_with_len}
use Rattle.ann_defs.specs.Graph.{row_in}
use Rattle.batch_insert.specs.Changes.{differing}
use Rattle.vamana_build.specs.declared.settings.VamanaSettings.{VamanaSettings}
use Rattle.vamana_build.specs.Builds.{rows_at}

-- the number of a batch, and ids with their new rows
pub record Change : Type 0 where
  pub batch : ℕ
  pub rows : List (ℕ × List ℕ)

-- the change by the batch after the first k: the ids whose rows differ, ascending, with their new rows
abbrev pub change_at : List (List ℕ) → VamanaSettings → ℕ → Change
change_at points s k = record { batch = k + 1; rows = differing (row_in (rows_at points s k)) (row_in (rows_at points s (k + 1))) (range_with_len 0 (length points)) }

-- item j of a change
abbrev pub changed_row : Change → ℕ → ℕ × List ℕ
changed_row change j = slice_index_or change.rows j (0, [])
