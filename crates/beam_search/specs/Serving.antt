-- What serves searches.
use Rattle.std.specs.Prelude.{◌≡◌, ℕ, ◌≤◌}
use Rattle.beam_search.specs.Room.{Room}

-- a scratch that serves searches of n points with this beam
pub record Serves (n beam : ℕ) (s : Room) : Type 0 where
  pub count : s.count ≡ n
  pub beam_fits : beam ≤ s.beam
