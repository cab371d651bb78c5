-- A builder and its publisher.
use Rattle.std.specs.Prelude.{◌≡◌, ℕ}
use Rattle.vamana_build.specs.Building.{Building}
use Rattle.versions.specs.Course.{Course}
use Rattle.versions.specs.Standing.{Desk}

-- they are of one course, the builder has so many workers, and each batch that is in was published
pub record AreInStep (c : Course) (many : ℕ) (b : Building) (p : Desk) : Type 0 where
  pub points : b.points ≡ c.points
  pub settings : b.settings ≡ c.settings
  pub workers : b.workers ≡ many
  pub batch : p.batch ≡ b.batch
  pub course : p.course ≡ c
