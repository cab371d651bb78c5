-- Batch insertion: Manohar and others, "ParlayANN: Scalable and Deterministic Parallel Graph-Based Approximate Nearest
-- Neighbor Search Algorithms", PPoPP 2024, prefix doubling; for one point it is the insertion of DiskANN's index build
-- (Subramanya and others, NeurIPS 2019, Algorithm 3).
-- Differences: the bounds of the batches are exact and capped; all points of a batch are searched in the graph as it
-- stood before the batch; a target's reverse edges are the ascending list of its sources; a row that has room keeps
-- its order and gains its new sources at the end.
use Rattle.std.specs.Prelude.{ℕ, zero, suc, ◌+◌, ◌-◌, ◌*◌, ◌/◌, ◌%◌, Bool, not, ◌&&◌, ◌==◌, if◌then◌else◌, nat_le, min, max, Option, Some, None, List, [], ◌∷◌, ◌++◌, map, length, replicate, slice_range}
use Rattle.std.specs.List.{filter, range_with_len, position_or_len}
use Rattle.ann_defs.specs.Distance.{point}
use Rattle.ann_defs.specs.Nearness.{ids_of}
use Rattle.ann_defs.specs.Graph.{has, without, row_in}
use Rattle.ann_defs.specs.GreedySearch.{visited_of}
use Rattle.ann_defs.specs.RobustPrune.{pruned_row}

-- the places in the order at which batches end: 0, 1, and then at most twice as many, and at most cap more, up to n
abbrev pub bound_at : ℕ → ℕ → ℕ → ℕ
bound_at n cap zero = 0
bound_at n cap (suc zero) = 1
bound_at n cap (suc (suc k)) = let b = bound_at n cap (suc k) in min n (b + min b cap)

-- how many batches a pass has: the least k whose bound is n
abbrev pub total_of : ℕ → ℕ → ℕ
total_of n cap = position_or_len (λ k. bound_at n cap k == n) (range_with_len 0 (n + 1))

-- the cap where none is set: a fiftieth of the points, rounded up
abbrev pub default_cap : ℕ → ℕ
default_cap n = max 1 ((n + 49) / 50)

-- the cap of a setting
abbrev pub cap_of : ℕ → Option ℕ → ℕ
cap_of n (Some cap) = cap
cap_of n None = default_cap n

-- the points of batch k of a pass, counted from 1
abbrev pub batch_at : List ℕ → ℕ → ℕ → List ℕ
batch_at order cap zero = []
batch_at order cap (suc k) = slice_range order (bound_at (length order) cap k) (bound_at (length order) cap (suc k))

-- the row of t with its sources: these are added where that makes at most `bound` ids, else all are pruned for t
abbrev pub merge_with : (prune : ℕ → List ℕ → List ℕ) → (bound t : ℕ) → (row sources : List ℕ) → List ℕ
merge_with prune bound t row sources =
    let added = row ++ filter (λ s. not (has row s)) sources in
    if nat_le (length added) bound then added else prune t (without t added)

-- a batch over n points: the rows before it, the new rows of its points, which points are in it, and how the row of a
-- target is merged with its sources. A layer of HNSW is n rows, empty where it doesn't hold the id.
module _ (n : ℕ) (old fresh : ℕ → List ℕ) (batch : ℕ → Bool) (merged : ℕ → List ℕ → List ℕ → List ℕ) where
  -- the row of u once the batch has its new rows
  abbrev pub laid_row : ℕ → List ℕ
  laid_row u = if batch u then fresh u else old u

  -- those of the batch, ascending, whose new row holds t
  abbrev pub sources_to : ℕ → List ℕ
  sources_to t = filter (λ p. batch p && has (fresh p) t) (range_with_len 0 n)

  -- the row of t after the batch
  abbrev pub row_then : ℕ → List ℕ
  row_then t = if length (sources_to t) == 0 then laid_row t else merged t (laid_row t) (sources_to t)

  -- the rows of all points after the batch
  abbrev pub rows_then : List (List ℕ)
  rows_then = map row_then (range_with_len 0 n)

-- the row of t with its sources, by RobustPrune
abbrev pub merge_of : List (List ℕ) → ℕ → ℕ → ℕ → ℕ → List ℕ → List ℕ → List ℕ
merge_of points num den degree t row sources = merge_with (λ u set. pruned_row points u set num den degree) degree t row sources

-- what decides a build over a point set
pub record Build : Type 0 where
  pub points : List (List ℕ)
  pub start : ℕ
  pub beam : ℕ
  pub num : ℕ
  pub den : ℕ
  pub degree : ℕ
  pub passes : ℕ

module _ (b : Build) where
  -- the new row of p: pruned from what a search for p visits and p's row, without p
  abbrev pub new_row_of : List (List ℕ) → ℕ → List ℕ
  new_row_of graph p =
      let visited = visited_of b.points (row_in graph) (point b.points p) b.beam (b.start ∷ []) in
      pruned_row b.points p (without p (ids_of visited ++ row_in graph p)) b.num b.den b.degree

  -- the merged row of t
  abbrev pub merged_row_of : ℕ → List ℕ → List ℕ → List ℕ
  merged_row_of t row sources = merge_of b.points b.num b.den b.degree t row sources

  -- the row of t after the batch
  abbrev pub last_row_of : List (List ℕ) → List ℕ → ℕ → List ℕ
  last_row_of graph batch t = row_then (length b.points) (row_in graph) (new_row_of graph) (has batch) merged_row_of t

  -- the graph after the batch
  abbrev pub batch_step : List (List ℕ) → List ℕ → List (List ℕ)
  batch_step graph batch = rows_then (length b.points) (row_in graph) (new_row_of graph) (has batch) merged_row_of

  -- the build as its batch k sees it, where a pass has so many batches: alpha is 1/1 in each pass but the last
  abbrev pub at_batch : (pass k : ℕ) → Build
  at_batch pass k = let early = nat_le k ((b.passes - 1) * pass) in
      record b { num = if early then 1 else b.num; den = if early then 1 else b.den }

-- how many batches there are in all passes
abbrev pub batches_in : (passes n cap : ℕ) → ℕ
batches_in passes n cap = passes * total_of n cap

-- the graph after k batches: each pass goes through the same batches of the order
abbrev pub graph_after : Build → List ℕ → ℕ → ℕ → List (List ℕ)
graph_after b order cap zero = replicate (length b.points) []
graph_after b order cap (suc k) =
    let pass = total_of (length order) cap in
    batch_step (at_batch b pass (suc k)) (graph_after b order cap k) (batch_at order cap (k % pass + 1))
