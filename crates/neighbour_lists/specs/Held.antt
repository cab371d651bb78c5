-- What lists hold, and how they belong to points.
use Rattle.std.specs.Prelude.{◌≡◌, ℕ, ◌+◌, ◌*◌, ◌<◌, ◌≤◌, Bool, true, false, List, length, slice_index_or}
use Rattle.ann_defs.specs.declared.limits.TheConstants.{MAX_WORDS, MAX_DEGREE}
use Rattle.ann_defs.specs.Graph.{row_in, AreGoodRows}
use Rattle.neighbour_lists.specs.declared.edge.Edge.{Edge}
use Rattle.neighbour_lists.specs.Edges.{edges_of}
use Rattle.neighbour_lists.specs.Fresh.{ArePast}
use Rattle.neighbour_lists.specs.ListRound.{nearest_of, next_row}

-- the greatest length of a list, the lists by id, their edges in reverse and whether these are sorted, which points are
-- active, and the neighbourhoods that the last round met, in two parts
pub record Held : Type 0 where
  pub list : ℕ
  pub rows : List (List ℕ)
  pub edges : List Edge
  pub sorted : Bool
  pub active : List Bool
  pub seen_rows : List (List ℕ)
  pub seen_others : List (List ℕ)

abbrev pub is_active : Held → ℕ → Bool
is_active l v = slice_index_or l.active v false

-- a list for each point, each of it of distinct others, nearest first
pub record ArePointLists (points : List (List ℕ)) (list : ℕ) (rows : List (List ℕ)) : Type 0 where
  pub good : AreGoodRows (length points) list rows
  pub near : (v : ℕ) → v < length points → nearest_of points list v (row_in rows v) ≡ row_in rows v

-- lists of these points, whose edges are theirs where they are sorted; a point that isn't active keeps its list in the next
-- round, and what the last round met changes no list
pub record BelongTo (points : List (List ℕ)) (l : Held) : Type 0 where
  pub list : (1 ≤ l.list) × (l.list ≤ MAX_DEGREE)
  pub words : length points * (l.list + 1) ≤ MAX_WORDS
  pub rows : AreGoodRows (length points) l.list l.rows
  pub near : (v : ℕ) → v < length points → nearest_of points l.list v (row_in l.rows v) ≡ row_in l.rows v
  pub edges : l.sorted ≡ true → l.edges ≡ edges_of points l.rows
  pub flags : length l.active ≡ length points
  pub settled : (v : ℕ) → v < length points → is_active l v ≡ false → next_row points l.list l.rows v ≡ row_in l.rows v
  pub seen_rows : length l.seen_rows ≡ length points
  pub seen_others : length l.seen_others ≡ length points
  pub past : ArePast points l.list l.rows l.seen_rows l.seen_others
