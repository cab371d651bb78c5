-- A publisher and a caller as contracts see them.
use Rattle.std.specs.Prelude.{◌≡◌, ℕ, ◌<◌, ◌-◌, ◌^◌, ◌⊎◌}
use Rattle.versions.specs.Course.{Course}

-- a publisher: the course whose graphs it publishes, and the last published batch
pub record Desk : Type 0 where
  pub course : Course
  pub batch : ℕ

-- a caller: the course whose graphs it asks in, the greatest batch that it was told of or answered in, and how many
-- entries were refused
pub record Standing : Type 0 where
  pub course : Course
  pub seen : ℕ
  pub refused : ℕ

-- a publisher at first
abbrev pub opening : Course → Desk
opening c = record { course = c; batch = 1 }

-- a caller at first
abbrev pub starting : Course → Standing
starting c = record { course = c; seen = 1; refused = 0 }

-- the count rose, or stands at the last value of u64
abbrev pub RoseOrLast : ℕ → ℕ → Type 0
RoseOrLast before after = (before < after) ⊎ (after ≡ 2 ^ 64 - 1)
