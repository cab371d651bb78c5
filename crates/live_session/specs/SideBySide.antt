-- Lists side by side, read as one.
use Rattle.std.specs.Prelude.{ℕ, ◌/◌, ◌%◌, ◌<◌, List, [], length, map, slice_index_or}
use Rattle.std.specs.List.{range_with_len}

-- item j stands in list j modulo their number, at place j divided by it
abbrev pub item_of : {A : Type 0} → List (List A) → ℕ → A → A
item_of rows j d = slice_index_or (slice_index_or rows (j % length rows) []) (j / length rows) d

-- so many items in their order
abbrev pub side_by_side : {A : Type 0} → List (List A) → ℕ → A → List A
side_by_side rows count d = map (λ j. item_of rows j d) (range_with_len 0 count)

-- each of so many items is there
abbrev pub AreFull : {A : Type 0} → List (List A) → ℕ → Type 0
AreFull rows count = (j : ℕ) → j < count → j / length rows < length (slice_index_or rows (j % length rows) [])
