-- How many bytes one call moves.
use Rattle.std.specs.Prelude.{ℕ, Option, Some, None, min}

-- of so many bytes a call moves all, where no most is set, and else at most that many
abbrev pub moved : Option ℕ → ℕ → ℕ
moved None count = count
moved (Some most) count = min most count
