-- What a point set and settings decide: the order, the start, the batches and the graph after each of them.
use Rattle.std.specs.Prelude.{ℕ, ◌+◌, List, length, slice_index}
use Rattle.ann_defs.specs.declared.alpha.Alpha.{Alpha}
use Rattle.ann_defs.specs.BatchInsert.{Build, cap_of, total_of, batches_in, at_batch, graph_after}
use Rattle.graph_rows.specs.Flat.{Flat}
use Rattle.seeded_order.specs.Order.{insertion_order}
use Rattle.vamana_build.specs.declared.settings.VamanaSettings.{VamanaSettings}

-- the order of insertion
unfoldable pub order_of : List (List ℕ) → VamanaSettings → List ℕ
order_of points s = insertion_order points s.order s.start s.seed

-- the point at which each search starts: the first of the order
abbrev pub start_of : List (List ℕ) → VamanaSettings → ℕ
start_of points s = slice_index (order_of points s) 0

-- the greatest number of points in a batch
abbrev pub batch_cap : List (List ℕ) → VamanaSettings → ℕ
batch_cap points s = cap_of (length points) s.cap

-- how many batches a pass over the points has
abbrev pub pass_of : List (List ℕ) → VamanaSettings → ℕ
pass_of points s = total_of (length points) (batch_cap points s)

-- how many batches there are in all passes
abbrev pub batches_of : List (List ℕ) → VamanaSettings → ℕ
batches_of points s = batches_in s.passes (length points) (batch_cap points s)

-- what decides the rows of all batches
abbrev pub build_of : List (List ℕ) → VamanaSettings → Build
build_of points s = record { points = points; start = start_of points s; beam = s.beam; num = s.alpha.num; den = s.alpha.den; degree = s.degree; passes = s.passes }

-- the same as the batch after k sees it: with factor 1 in each pass but the last
abbrev pub build_at : List (List ℕ) → VamanaSettings → ℕ → Build
build_at points s k = at_batch (build_of points s) (pass_of points s) (k + 1)

-- the same with another factor
abbrev pub build_by : List (List ℕ) → VamanaSettings → Alpha → Build
build_by points s alpha = record (build_of points s) { num = alpha.num; den = alpha.den }

-- the rows after k batches
abbrev pub rows_at : List (List ℕ) → VamanaSettings → ℕ → List (List ℕ)
rows_at points s k = graph_after (build_of points s) (order_of points s) (batch_cap points s) k

-- the graph after k batches
abbrev pub graph_at : List (List ℕ) → VamanaSettings → ℕ → Flat
graph_at points s k = record { width = s.degree; rows = rows_at points s k }
