use Rattle.std.proofs.Common.{◌≡◌, drop}
use Rattle.std.specs.List.{list_all}
use Rattle.ann_defs.specs.RobustPrune.{stays}
use Rattle.robust_prune.proofs.among.stays_beside_all.Given as goal

abbrev pub invariant-loop-neighbour : goal.invariant-loop-neighbour
invariant-loop-neighbour l =
    list_all (λ c. stays l.points.vectors l.fn.alpha.num l.fn.alpha.den c l.candidate) (drop l.neighbour-index l.row) ≡ list_all (λ c. stays l.points.vectors l.fn.alpha.num l.fn.alpha.den c l.candidate) l.row
