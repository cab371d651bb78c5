-- What a reader has to know.
use Rattle.std.specs.Prelude.{◌≡◌, ℕ, ◌≤◌, Some}
use Rattle.versions.specs.Course.{Course}
use Rattle.versions.specs.Known.{Known}

-- what it knows suffices for answers in this course, of batch `seen` or later
pub record Suffices (course : Course) (seen : ℕ) (v : Known) : Type 0 where
  pub of : v.course ≡ Some course
  pub late : seen ≤ v.seen
