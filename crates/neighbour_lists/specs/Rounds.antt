-- What a round of lists goes over.
use Rattle.std.specs.Prelude.{ℕ, List, length}
use Rattle.std.specs.List.{filter, range_with_len}
use Rattle.neighbour_lists.specs.Held.{Held, is_active}

-- the active points, ascending
abbrev pub active_ids : Held → List ℕ
active_ids l = filter (is_active l) (range_with_len 0 (length l.active))
