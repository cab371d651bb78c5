-- What a reader's knowledge is good for.
use Rattle.std.specs.Prelude.{◌≡◌, ◌≤◌}
use Rattle.versions.specs.Known.{Known}
use Rattle.versions.specs.Standing.{Standing}
use Rattle.versions.specs.Rule.{IsVersion, knows, shared_course}
use Rattle.versions.specs.declared.shared.Shared.{Shared}

-- the value x that a caller found is a version of its course, not older than what it has seen
pub record Visits (s : Standing) (x : Shared) (v : Known) : Type 0 where
  pub version : IsVersion x
  pub course : shared_course x ≡ s.course
  pub late : s.seen ≤ x.batch
  pub known : v ≡ knows x
