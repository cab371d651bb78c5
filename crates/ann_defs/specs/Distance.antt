-- Points, each a list of numbers below 256, and their squared Euclidean distance.
use Rattle.std.specs.Prelude.{ℕ, ◌+◌, ◌-◌, ◌*◌, List, [], length, slice_index_or}
use Rattle.std.specs.List.{zip, sum_by}
use Rattle.ann_defs.specs.declared.kinds.Element.{Element}

-- a point set: what its stored numbers stand for, and the vectors of its points by id.
-- A stored number s of I8 stands for s - 128, so distances over stored numbers are those over the numbers meant.
pub record PointSet : Type 0 where
  pub element : Element
  pub vectors : List (List ℕ)

-- the square of the difference of two numbers
abbrev pub squared_gap : ℕ → ℕ → ℕ
squared_gap a b = (a - b + (b - a)) * (a - b + (b - a))

-- the sum over the columns of the squared differences
abbrev pub dist_of : List ℕ → List ℕ → ℕ
dist_of x y = sum_by (λ p. squared_gap p.0 p.1) (zip x y)

-- the point with this id
abbrev pub point : List (List ℕ) → ℕ → List ℕ
point points id = slice_index_or points id []

-- how many numbers each point has
abbrev pub dim_of : List (List ℕ) → ℕ
dim_of points = length (point points 0)
