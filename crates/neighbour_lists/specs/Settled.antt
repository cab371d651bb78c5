-- Points whose surroundings stayed as they were.
use Rattle.std.specs.Prelude.{◌≡◌, ℕ, ◌<◌, true, List, ◌++◌, length}
use Rattle.ann_defs.specs.Graph.{has, row_in}
use Rattle.ann_defs.specs.Laws.{AreAlike}
use Rattle.neighbour_lists.specs.declared.edge.Edge.{Edge}
use Rattle.neighbour_lists.specs.ListRound.{around, next_row, next_rows}
use Rattle.neighbour_lists.specs.Reversed.{reverse_in}

-- between two states of the lists neither the list of v nor a neighbourhood that it sees changed. A neighbourhood is a
-- set: it is the same where a reverse neighbour comes into the list and stays a reverse one.
pub record IsSettled (points : List (List ℕ)) (list : ℕ) (old new : List (List ℕ)) (v : ℕ) : Type 0 where
  pub row : row_in new v ≡ row_in old v
  pub around_it : AreAlike (around points list new v) (around points list old v)
  pub around_them : (u : ℕ) → has (around points list old v) u ≡ true → AreAlike (around points list new u) (around points list old u)

-- a point that is settled in a round keeps its list in the next one: it has the list that the round gave it
abbrev pub SettledPointsStay : Type 0
SettledPointsStay = (points : List (List ℕ)) (list : ℕ) (rows : List (List ℕ)) (v : ℕ)
    → v < length points → IsSettled points list rows (next_rows points list rows) v
    → next_row points list (next_rows points list rows) v ≡ row_in (next_rows points list rows) v

-- the neighbourhood of v, from the lists and their edges in reverse
abbrev pub around_in : ℕ → List (List ℕ) → List Edge → ℕ → List ℕ
around_in list rows edges v = row_in rows v ++ reverse_in edges list v

-- a settled point, by two states of lists and edges
pub record IsStill (list : ℕ) (old : List (List ℕ)) (old_edges : List Edge) (new : List (List ℕ)) (new_edges : List Edge) (v : ℕ) : Type 0 where
  pub row : row_in new v ≡ row_in old v
  pub around_it : AreAlike (around_in list new new_edges v) (around_in list old old_edges v)
  pub around_them : (u : ℕ) → has (around_in list old old_edges v) u ≡ true → AreAlike (around_in list new new_edges u) (around_in list old old_edges u)
