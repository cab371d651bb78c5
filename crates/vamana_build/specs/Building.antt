-- A build in work.
use Rattle.ann_defs.specs.declared.limits.TheConstants.{MAX_POINTS, MAX_WORKERS}
use Rattle.std.specs.Prelude.{◌≡◌, ℕ, ◌+◌, ◌*◌, ◌%◌, ◌≤◌, ◌<◌, if◌then◌else◌, nat_lt, Option, Some, None, IfSome, List, length}
use Rattle.steal_pool.specs.Work.{AllServe}
use Rattle.steal_pool.specs.declared.post.Post.{Post}
use Rattle.graph_rows.specs.Flat.{Flat}
use Rattle.ann_defs.specs.BatchInsert.{bound_at}
use Rattle.prefix_batches.specs.Progress.{Progress}
use Rattle.vamana_build.specs.declared.settings.VamanaSettings.{VamanaSettings}
use Rattle.beam_search.specs.Room.{Room}
use Rattle.vamana_build.specs.Builds.{batch_cap, pass_of, batches_of, graph_at}
use Rattle.beam_search.specs.Serving.{Serves}

-- of what the index is built, how many batches are in, and for how many workers there are posts
pub record Building : Type 0 where
  pub points : List (List ℕ)
  pub settings : VamanaSettings
  pub batch : ℕ
  pub workers : ℕ

-- the places of the next batch, after k of them
abbrev pub next_of : List (List ℕ) → VamanaSettings → ℕ → Option (ℕ × ℕ)
next_of points s k =
    let n = length points in
    let cap = batch_cap points s in
    let place = k % pass_of points s in
    if nat_lt k (batches_of points s) then Some (bound_at n cap place, bound_at n cap (place + 1)) else None

-- how many batches of its pass are given when k are in: the next one is, where there is one
abbrev pub given_of : List (List ℕ) → VamanaSettings → ℕ → ℕ
given_of points s k = if nat_lt k (batches_of points s) then k % pass_of points s + 1 else pass_of points s

-- what a build holds after k batches
pub record IsBuilt (points : List (List ℕ)) (s : VamanaSettings) (k : ℕ) (graph : Flat) (batches : Progress) (next : Option (ℕ × ℕ)) (posts : List (Post Room)) : Type 0 where
  pub graph_is : graph ≡ graph_at points s k
  pub within : k ≤ batches_of points s
  pub few : batches_of points s ≤ 2 * MAX_POINTS
  pub batches_are : batches ≡ record { n = length points; cap = batch_cap points s; done = given_of points s k }
  pub next_is : next ≡ next_of points s k
  pub next_fits : IfSome next (λ b. (b.0 < b.1) × (b.1 ≤ length points))
  pub serve : AllServe (Serves (length points) s.beam) posts
  pub workers : (1 ≤ length posts) × (length posts ≤ MAX_WORKERS)
