use Rattle.std.proofs.Common.{◌≡◌, ℕ, ◌*◌, ◌<◌, ◌≤◌, get_or, length, take}
use Rattle.ann_defs.specs.Distance.{dim_of}
use Rattle.seeded_order.specs.Medoid.{column_sum}
use Rattle.seeded_order.proofs.centroid.column_sums.Given as goal

abbrev pub invariant-loop-u : goal.invariant-loop-u
invariant-loop-u l = record {
  count : length l.sums.items ≡ dim_of l.points.vectors;
  sums : (j : ℕ) → j < dim_of l.points.vectors → get_or l.sums.items j 0 ≡ column_sum (take l.u l.points.vectors) j;
  few : (j : ℕ) → j < dim_of l.points.vectors → get_or l.sums.items j 0 ≤ 255 * l.u;
}
