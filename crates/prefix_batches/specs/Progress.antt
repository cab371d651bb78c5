-- How far the batches of an insertion have come.
use Rattle.std.specs.Prelude.{ℕ}

-- n points in batches of at most cap, of which so many were given
pub record Progress : Type 0 where
  pub n : ℕ
  pub cap : ℕ
  pub done : ℕ
