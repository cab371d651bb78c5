-- A build in work.
use Rattle.ann_defs.specs.declared.limits.TheConstants.{MAX_POINTS, MAX_WORKERS, MAX_WORDS}
use Rattle.std.specs.Prelude.{◌≡◌, ℕ, ◌+◌, ◌*◌, ◌≤◌, ◌<◌, if◌then◌else◌, nat_lt, min, Option, Some, None, IfSome, List, length}
use Rattle.steal_pool.specs.Work.{AllServe}
use Rattle.steal_pool.specs.declared.post.Post.{Post}
use Rattle.graph_rows.specs.Flat.{Flat}
use Rattle.graph_rows.specs.Layers.{Layered}
use Rattle.ann_defs.specs.BatchInsert.{bound_at}
use Rattle.prefix_batches.specs.Progress.{Progress}
use Rattle.beam_search.specs.Room.{Room}
use Rattle.beam_search.specs.Serving.{Serves}
use Rattle.hnsw_build.specs.declared.settings.HnswSettings.{HnswSettings}
use Rattle.hnsw_build.specs.HnswBuilds.{batch_cap, batches_of, base_at, upper_at}

-- of what the index is built, how many batches are in, and for how many workers there are posts
pub record Building : Type 0 where
  pub points : List (List ℕ)
  pub settings : HnswSettings
  pub levels : List ℕ
  pub batch : ℕ
  pub workers : ℕ

-- the places of the next batch, after k of them
abbrev pub next_of : List (List ℕ) → HnswSettings → ℕ → Option (ℕ × ℕ)
next_of points s k =
    let n = length points in
    let cap = batch_cap points s in
    if nat_lt k (batches_of points s) then Some (bound_at n cap k, bound_at n cap (k + 1)) else None

-- what a build holds after k batches
pub record IsBuilt (points : List (List ℕ)) (s : HnswSettings) (levels : List ℕ) (k : ℕ) (base : Flat) (upper : List Layered) (batches : Progress) (next : Option (ℕ × ℕ)) (posts : List (Post Room)) : Type 0 where
  pub base_is : base ≡ base_at points s levels k
  pub upper_is : upper ≡ upper_at points s levels k
  pub words : length points * (s.degree + s.degree + 1) ≤ MAX_WORDS
  pub within : k ≤ batches_of points s
  pub few : batches_of points s ≤ MAX_POINTS
  pub batches_are : batches ≡ record { n = length points; cap = batch_cap points s; done = min (k + 1) (batches_of points s) }
  pub next_is : next ≡ next_of points s k
  pub next_fits : IfSome next (λ b. (b.0 < b.1) × (b.1 ≤ length points))
  pub serve : AllServe (Serves (length points) s.beam) posts
  pub workers : (1 ≤ length posts) × (length posts ≤ MAX_WORKERS)
