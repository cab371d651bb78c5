-- What one thread knows of the shared value.
use Rattle.std.specs.Prelude.{ℕ, Option, None}
use Rattle.versions.specs.Course.{Course}

-- the course whose graphs are shared, once it has looked, and a batch that was published
pub record Known : Type 0 where
  pub course : Option Course
  pub seen : ℕ

abbrev pub nothing_known : Known
nothing_known = record { course = None; seen = 1 }
