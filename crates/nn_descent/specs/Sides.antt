-- Room for the candidates of a row of the search graph.
use Rattle.std.specs.Prelude.{◌≡◌, ℕ, ◌+◌, length}
use Rattle.ann_defs.specs.declared.limits.TheConstants.{MAX_DEGREE}
use Rattle.nn_descent.specs.declared.sides.Sides.{Sides}
use Rattle.near_lists.specs.Marks.{AreUpTo}

pub record ServesSides (n : ℕ) (s : Sides) : Type 0 where
  pub sources : length s.sources.items ≡ n
  pub cands : length s.cands.items ≡ n + MAX_DEGREE
  pub marks : length s.marks.items ≡ n
  pub up_to : AreUpTo s.stamp s.marks.items
