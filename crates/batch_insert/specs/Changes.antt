-- What a batch changes: the rows that differ, and what putting rows gives.
use Rattle.std.specs.Prelude.{ℕ, not, ◌&&◌, if◌then◌else◌, List, [], map, length, nat_eq, nat_lt, nat_le, slice_index_or}
use Rattle.std.specs.List.{filter, fold}
use lib.Pointwise.{pointwise}
use Rattle.ann_defs.specs.Graph.{has}
use Rattle.graph_rows.specs.Flat.{Flat, with_row}
use Rattle.graph_rows.specs.Index.{layer_ids}
use Rattle.graph_rows.specs.Layers.{Layered, with_layer_row}

-- those of the ids whose rows differ, with their new rows
abbrev pub differing : (ℕ → List ℕ) → (ℕ → List ℕ) → List ℕ → List (ℕ × List ℕ)
differing old new ids = map (λ u. (u, new u)) (filter (λ u. not (pointwise nat_eq (new u) (old u))) ids)

-- item j of changed rows
abbrev pub entry_at : List (ℕ × List ℕ) → ℕ → ℕ × List ℕ
entry_at rows j = slice_index_or rows j (0, [])

-- the graph with one row put where it belongs, where it fits
abbrev pub put : Flat → ℕ × List ℕ → Flat
put g e = if nat_lt e.0 (length g.rows) && nat_le (length e.1) g.width then with_row g e.0 e.1 else g

-- the graph with all of these
abbrev pub put_all : Flat → List (ℕ × List ℕ) → Flat
put_all g rows = fold put g rows

-- the same for a layer
abbrev pub put_in_layer : Layered → ℕ × List ℕ → Layered
put_in_layer l e = if has (layer_ids l.entries) e.0 && nat_le (length e.1) l.width then with_layer_row l e.0 e.1 else l

abbrev pub put_all_in_layer : Layered → List (ℕ × List ℕ) → Layered
put_all_in_layer l rows = fold put_in_layer l rows
