-- Room for an answer.
use Rattle.std.specs.Prelude.{ℕ, List}
use Rattle.ann_defs.specs.declared.near.Near.{Near}

-- the answer that it holds, and how many ids there is room for
pub record Found : Type 0 where
  pub pairs : List Near
  pub room : ℕ
