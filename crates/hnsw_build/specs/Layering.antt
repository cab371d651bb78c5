-- The levels of points and the layers that they make: Malkov and Yashunin, "Efficient and robust approximate nearest
-- neighbor search using Hierarchical Navigable Small World graphs", Algorithm 1 INSERT, where a point is in each layer
-- up to its level.
-- Differences: the levels are given; the first point of greatest level is inserted first, so the entry point never
-- changes.
use Rattle.std.specs.Prelude.{ℕ, ◌+◌, Bool, ◌==◌, ◌&&◌, nat_le, nat_lt, max, List, length, slice_index}
use Rattle.std.specs.List.{filter, fold, position_or_len, range_with_len, sum_by}
use Rattle.graph_rows.specs.WellFormed.{layer_words}
use Rattle.seeded_order.specs.Order.{to_front}

-- the level of an id
abbrev pub level_in : List ℕ → ℕ → ℕ
level_in levels id = slice_index levels id

-- the number of the top layer: the greatest level
abbrev pub top_of : List ℕ → ℕ
top_of levels = fold max 0 levels

-- whether layer l holds an id
abbrev pub is_in : List ℕ → ℕ → ℕ → Bool
is_in levels l id = nat_lt id (length levels) && nat_le l (level_in levels id)

-- the ids of layer l, ascending
abbrev pub ids_in : List ℕ → ℕ → List ℕ
ids_in levels l = filter (is_in levels l) (range_with_len 0 (length levels))

-- the entry point: the first of an order whose level is the greatest
abbrev pub entry_of : List ℕ → List ℕ → ℕ
entry_of levels order = slice_index order (position_or_len (λ id. level_in levels id == top_of levels) order)

-- the order in which the points are inserted: the entry point first, all others as before
abbrev pub entry_first : List ℕ → List ℕ → List ℕ
entry_first levels order = to_front (entry_of levels order) order

-- the words of all layers in memory, with rows of twice the degree in layer 0
abbrev pub words_in : List ℕ → ℕ → ℕ
words_in levels degree = layer_words (length levels) (degree + degree) + sum_by (λ l. layer_words (length (ids_in levels l)) degree) (range_with_len 1 (top_of levels))
