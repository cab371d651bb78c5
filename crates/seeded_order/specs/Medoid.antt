-- The point nearest to the centroid, by exact integers.
use Rattle.std.specs.Prelude.{ℕ, ◌*◌, List, length, slice_index}
use Rattle.std.specs.List.{sum_by, range_with_len}
use Rattle.std.specs.declared.cmp.Ordering.{Ordering}
use Rattle.std.specs.Ordering.{nat_cmp, ordering_then}
use Rattle.ann_defs.specs.Distance.{squared_gap, point, dim_of}
use Rattle.ann_defs.specs.Ordered.{ordered}

-- the sum of a column
abbrev pub column_sum : List (List ℕ) → ℕ → ℕ
column_sum points j = sum_by (λ x. slice_index x j) points

-- the squared distance of n times a point to the sum of all points, which is n² times that to the centroid
abbrev pub spread : List (List ℕ) → ℕ → ℕ
spread points u = sum_by (λ j. squared_gap (length points * slice_index (point points u) j) (column_sum points j)) (range_with_len 0 (dim_of points))

-- the lesser spread first; ties go to the smaller id
abbrev pub spread_cmp : List (List ℕ) → ℕ → ℕ → Ordering
spread_cmp points a b = ordering_then (nat_cmp (spread points a) (spread points b)) (nat_cmp a b)

-- the id with the least spread
abbrev pub medoid_of : List (List ℕ) → ℕ
medoid_of points = slice_index (ordered (spread_cmp points) (range_with_len 0 (length points))) 0
