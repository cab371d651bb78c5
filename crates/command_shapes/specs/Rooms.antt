-- Room for answers and their lines.
use Rattle.std.specs.Prelude.{◌≡◌, ◌+◌, ◌*◌, ◌^◌, ◌≤◌, ℕ, length, vec_capacity}
use Rattle.command_shapes.specs.declared.rounds.Rooms.{Rooms}

-- there is room for an answer of so many near points, and for its line
pub record AreFor (longest : ℕ) (rooms : Rooms) : Type 0 where
  pub nears : length rooms.nears.items ≡ longest
  pub few : longest ≤ 2 ^ 32
  pub buffer : 22 * longest + 11 ≤ vec_capacity rooms.buffer
