use Rattle.std.proofs.Common.{◌≡◌, drop}
use Rattle.std.specs.List.{list_all}
use Rattle.ann_defs.specs.Nearness.{ids_of}
use Rattle.ann_defs.specs.RobustPrune.{stays}
use Rattle.robust_prune.proofs.robust.stays_beside_kept.Given as goal

abbrev pub invariant-loop-i : goal.invariant-loop-i
invariant-loop-i l = record {
  same : l.kept ≡ l.fn.kept;
  beside : list_all (λ c. stays l.points.vectors l.fn.alpha.num l.fn.alpha.den c l.candidate) (ids_of (drop l.i l.kept)) ≡ list_all (λ c. stays l.points.vectors l.fn.alpha.num l.fn.alpha.den c l.candidate) (ids_of l.kept);
}
