-- A writer between two calls.
use Rattle.std.specs.Prelude.{◌≡◌, ℕ, ◌<◌, List, [], Some}
use Rattle.vamana_build.specs.Changes.{Change}
use Rattle.versions.specs.Course.{Course}
use Rattle.versions.specs.Known.{Known}
use Rattle.versions.specs.Rule.{IsVersion, shared_course}
use Rattle.versions.specs.declared.shared.Shared.{Shared}

-- it shows this batch of this course, knows of it, and has nothing that it has not published
pub record IsReady (course : Course) (batch : ℕ) (x : Shared) (pending : List Change) (v : Known) : Type 0 where
  pub version : IsVersion x
  pub of : shared_course x ≡ course
  pub at : x.batch ≡ batch
  pub nothing : pending ≡ []
  pub view : v.seen ≡ batch
  pub told : 1 < batch → v.course ≡ Some course
