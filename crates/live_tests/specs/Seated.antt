-- A caller with what it needs to ask.
use Rattle.std.specs.Prelude.{◌≡◌, ℕ, ◌≤◌, length}
use Rattle.ann_defs.specs.Distance.{dim_of}
use Rattle.beam_search.specs.Room.{Room}
use Rattle.beam_search.specs.Serving.{Serves}
use Rattle.vamana_build.specs.Building.{Building}
use Rattle.versions.specs.Course.{Course}
use Rattle.versions.specs.Found.{Found}
use Rattle.versions.specs.Standing.{Desk, Standing}
use Rattle.live_session.specs.Builder.{AreInStep}

-- a caller, a scratch for its searches, and room for its answers
pub record Seated : Type 0 where
  pub caller : Standing
  pub scratch : Room
  pub out : Found

-- it asks in the graphs of this course, and there is room for queries of this beam and for k ids
pub record CanAsk (c : Course) (beam k : ℕ) (s : Seated) : Type 0 where
  pub course : s.caller.course ≡ c
  pub serves : Serves (length c.points) beam s.scratch
  pub room : k ≤ s.out.room

-- a build of points of one byte by one worker, its publisher, and a caller that asks with beam 4 for one id
pub record IsSeated (c : Course) (b : Building) (p : Desk) (s : Seated) : Type 0 where
  pub dim : dim_of c.points ≡ 1
  pub step : AreInStep c 1 b p
  pub can : CanAsk c 4 1 s
