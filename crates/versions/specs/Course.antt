-- The graphs that are shared: those after the whole batches of one build.
use Rattle.std.specs.Prelude.{◌≡◌, ℕ, ◌+◌, ◌≤◌, List}
use Rattle.ann_defs.specs.declared.near.Near.{Near}
use Rattle.ann_defs.specs.Graph.{row_in}
use Rattle.ann_defs.specs.GreedySearch.{answer_of}
use Rattle.batch_insert.specs.Changes.{put_all}
use Rattle.graph_rows.specs.Flat.{Flat}
use Rattle.vamana_build.specs.Builds.{batches_of, graph_at, rows_at, start_of}
use Rattle.vamana_build.specs.Changes.{Change}
use Rattle.vamana_build.specs.declared.plan.Plan.{Plan}
use Rattle.vamana_build.specs.declared.settings.VamanaSettings.{VamanaSettings}

-- what of a plan decides its graphs
pub record Course : Type 0 where
  pub points : List (List ℕ)
  pub settings : VamanaSettings

abbrev pub course_of : Plan → Course
course_of p = record { points = p.points.now.vectors; settings = p.settings }

-- the graph after v batches
unfoldable pub graph_after : Course → ℕ → Flat
graph_after c v = graph_at c.points c.settings v

-- how many batches there are
unfoldable pub total_of : Course → ℕ
total_of c = batches_of c.points c.settings

-- the change leads from the graph after v batches to the next
pub record LeadsFrom (c : Course) (v : ℕ) (change : Change) : Type 0 where
  pub batch : change.batch ≡ v + 1
  pub within : v + 1 ≤ total_of c
  pub next : put_all (graph_after c v) change.rows ≡ graph_after c (v + 1)

-- the k nearest that GreedySearch (DiskANN, Algorithm 1) finds from the start in the graph after v batches, nearest first
unfoldable pub answer_at : Course → (v beam k : ℕ) → (query : List ℕ) → List Near
answer_at c v beam k query = answer_of c.points (row_in (rows_at c.points c.settings v)) query beam (start_of c.points c.settings) k
