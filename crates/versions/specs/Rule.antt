-- The rule of the shared value, and what each step on it tells.
use Rattle.std.specs.Prelude.{◌≡◌, ℕ, ◌≤◌, List, Option, None, Some, max}
use mathlib.Core.Option.{some}
use lib.ListN.{get_elem?}
use Rattle.versions.specs.Course.{Course, course_of, graph_after, total_of}
use Rattle.versions.specs.Known.{Known, nothing_known}
use Rattle.versions.specs.declared.shared.Shared.{Shared}

abbrev pub shared_course : Shared → Course
shared_course x = course_of x.plan.now

-- the shared value is v and the graph after v batches, and v is 1 to the total
pub record IsVersion (x : Shared) : Type 0 where
  pub low : 1 ≤ x.batch
  pub high : x.batch ≤ total_of (shared_course x)
  pub graph : x.graph ≡ graph_after (shared_course x) x.batch

-- a view knows of batches 1 to v, and of no course but that of x
pub record Fits (x : Shared) (v : Known) : Type 0 where
  pub low : 1 ≤ v.seen
  pub high : v.seen ≤ x.batch
  pub course : (c : Course) → v.course ≡ Some c → c ≡ shared_course x

-- the rule, over the shared value and the views of all threads
pub record Keeps (x : Shared) (views : List Known) : Type 0 where
  pub version : IsVersion x
  pub each : (seat : ℕ) (v : Known) → get_elem? views seat ≡ some v → Fits x v

abbrev pub newcomer : Known
newcomer = nothing_known

-- what is known of x once it was seen
abbrev pub knows : Shared → Known
knows x = record { course = Some (shared_course x); seen = x.batch }

-- enter and publish: y is a version, of the course that was known, and not older than what was known. All that is known
-- then
abbrev pub Sees : Known → Shared → Shared → Known → Type 0
Sees v x y w = IsVersion y × Fits y v × (w ≡ knows y)

abbrev pub either : Option Course → Option Course → Option Course
either None d = d
either (Some c) d = Some c

-- learn: what both know
abbrev pub larger : Known → Known → Known
larger v w = record { course = either v.course w.course; seen = max v.seen w.seen }
