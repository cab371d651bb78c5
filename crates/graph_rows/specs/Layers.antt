-- What a layer above the first holds.
use Rattle.std.specs.Prelude.{◌≡◌, ℕ, ◌≤◌, ◌==◌, List, [], length, slice_index_or, slice_set}
use Rattle.std.specs.List.{position_or_len}
use Rattle.ann_defs.specs.Ordered.{Ascends}
use Rattle.graph_rows.specs.Index.{layer_ids, layer_rows}

-- the greatest length of a row, and the ids with their rows
pub record Layered : Type 0 where
  pub width : ℕ
  pub entries : List (ℕ × List ℕ)

-- a row for each of some ids, which ascend
pub record AreLayered (ids : List ℕ) (rows : List (List ℕ)) : Type 0 where
  pub some : 1 ≤ length ids
  pub few : length ids ≤ 67108864
  pub same : length rows ≡ length ids
  pub ascend : Ascends ids

-- where an id stands
abbrev pub place_in : List ℕ → ℕ → ℕ
place_in ids id = position_or_len (λ x. x == id) ids

-- the row of an id
abbrev pub layer_row : Layered → ℕ → List ℕ
layer_row l id = slice_index_or (layer_rows l.entries) (place_in (layer_ids l.entries) id) []

-- the same layer with another row
abbrev pub with_layer_row : Layered → ℕ → List ℕ → Layered
with_layer_row l id row = record { width = l.width; entries = slice_set l.entries (place_in (layer_ids l.entries) id) (id, row) }
