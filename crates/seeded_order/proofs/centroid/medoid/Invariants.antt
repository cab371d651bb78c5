use Rattle.std.proofs.Common.{◌≡◌, ◌<◌, get_or}
use Rattle.std.specs.List.{range_with_len}
use Rattle.ann_defs.specs.Ordered.{ordered}
use Rattle.seeded_order.specs.Medoid.{spread, spread_cmp}
use Rattle.seeded_order.proofs.centroid.medoid.Given as goal

abbrev pub invariant-loop-u : goal.invariant-loop-u
invariant-loop-u l = record {
  best : l.best ≡ get_or (ordered (spread_cmp l.points.vectors) (range_with_len 0 l.u)) 0 0;
  below : l.best < l.u;
  least : l.least ≡ spread l.points.vectors l.best;
}
