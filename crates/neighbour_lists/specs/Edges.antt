-- The edges of lists in reverse: by the target, and of one target by the nearness of the source to it.
use Rattle.std.specs.Prelude.{ℕ, ◌+◌, ◌<◌, ◌≤◌, List, map, length, slice_index, slice_index_or}
use Rattle.std.specs.List.{All, flat_map, range_with_len}
use Rattle.std.specs.declared.cmp.Ordering.{Ordering}
use Rattle.std.specs.Ordering.{nat_cmp, ordering_then}
use Rattle.ann_defs.specs.Distance.{point}
use Rattle.ann_defs.specs.Nearness.{near_cmp, near_of}
use Rattle.ann_defs.specs.Ordered.{ordered}
use Rattle.ann_defs.specs.Graph.{row_in}
use Rattle.neighbour_lists.specs.declared.edge.Edge.{Edge}

abbrev pub edge_cmp : Edge → Edge → Ordering
edge_cmp a b = ordering_then (nat_cmp a.target b.target) (near_cmp a.source b.source)

-- the edge from u to v
abbrev pub edge_to : List (List ℕ) → ℕ → ℕ → Edge
edge_to points u v = record { target = v; source = near_of points (point points v) u }

-- the edges from u
abbrev pub edges_from : List (List ℕ) → List (List ℕ) → ℕ → List Edge
edges_from points rows u = map (edge_to points u) (row_in rows u)

-- all edges, in order
abbrev pub edges_of : List (List ℕ) → List (List ℕ) → List Edge
edges_of points rows = ordered edge_cmp (flat_map (edges_from points rows) (range_with_len 0 (length rows)))

-- the edges to lesser targets end here
pub record IsStart (edges : List Edge) (target at : ℕ) : Type 0 where
  pub bound : at ≤ length edges
  pub before : (k : ℕ) (d : Edge) → k < at → (slice_index_or edges k d).target < target
  pub after : (k : ℕ) (d : Edge) → at ≤ k → k < length edges → target ≤ (slice_index_or edges k d).target

-- for each target where its edges start, and one more start behind the last target
pub record AreStarts (edges : List Edge) (starts : List ℕ) : Type 0 where
  pub starts_at : (t : ℕ) → t < length starts → IsStart edges t (slice_index starts t)
  pub inside : All (λ e. e.target + 1 < length starts) edges
