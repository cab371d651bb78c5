-- What the answers to a caller's queries are.
use Rattle.std.specs.Prelude.{◌≡◌, ℕ, ◌+◌, ◌*◌, ◌<◌, ◌≤◌, List, [], length, slice_index_or}
use Rattle.ann_defs.specs.declared.limits.TheConstants.{MAX_BEAM, MAX_CALLERS}
use Rattle.ann_defs.specs.declared.near.Near.{Near}
use Rattle.ann_defs.specs.Distance.{dim_of, point}
use Rattle.versions.specs.Course.{Course, answer_at}
use Rattle.live_session.specs.declared.asking.Asking.{Asking}
use Rattle.live_session.specs.Rows.{Row}

-- queries of the points' dimension, with settings in range
pub record Fits (c : Course) (a : Asking) : Type 0 where
  pub dim : dim_of a.queries.now.vectors ≡ dim_of c.points
  pub beam : (1 ≤ a.beam) × (a.beam ≤ MAX_BEAM)
  pub k : (1 ≤ a.k) × (a.k ≤ a.beam)
  pub callers : (1 ≤ a.callers) × (a.callers ≤ MAX_CALLERS)

-- the answer to a query after a batch between low and top, with the number of that batch
pub record IsRight (c : Course) (a : Asking) (low top : ℕ) (query : List ℕ) (e : ℕ × List Near) : Type 0 where
  pub late : low ≤ e.0
  pub within : e.0 ≤ top
  pub nears : e.1 ≡ answer_at c e.0 a.beam a.k query

-- the answers to the queries first, first + callers and so on; their batches don't fall
pub record AreRight (c : Course) (a : Asking) (first low top : ℕ) (answers : List (ℕ × List Near)) : Type 0 where
  pub each : (i : ℕ) → i < length answers → IsRight c a low top (point a.queries.now.vectors (first + i * a.callers)) (slice_index_or answers i (0, []))
  pub rising : (i : ℕ) → i + 1 < length answers → (slice_index_or answers i (0, [])).0 ≤ (slice_index_or answers (i + 1) (0, [])).0

-- a row of right answers to the queries first, first + callers and so on, with room for all of them
pub record IsRow (c : Course) (a : Asking) (first low top : ℕ) (row : Row) : Type 0 where
  pub k_is : row.k ≡ a.k
  pub enough : length a.queries.now.vectors ≤ row.size * a.callers
  pub small : row.size ≤ length a.queries.now.vectors
  pub few : length row.answers ≤ row.size
  pub right : AreRight c a first low top row.answers

-- a row that no query is missing from
pub record IsWhole (c : Course) (a : Asking) (first low top : ℕ) (row : Row) : Type 0 where
  pub right : AreRight c a first low top row.answers
  pub all : length a.queries.now.vectors ≤ first + length row.answers * a.callers

-- whole rows of the callers 0, 1 and so on
abbrev pub AreWhole : Course → Asking → (low top : ℕ) → List Row → Type 0
AreWhole c a low top rows = (i : ℕ) (d : Row) → i < length rows → IsWhole c a i low top (slice_index_or rows i d)
