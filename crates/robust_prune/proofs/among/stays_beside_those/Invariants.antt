use Rattle.std.proofs.Common.{◌≡◌, drop}
use Rattle.std.specs.List.{list_all}
use Rattle.ann_defs.specs.Nearness.{ids_of}
use Rattle.ann_defs.specs.RobustPrune.{stays}
use Rattle.robust_prune.proofs.among.stays_beside_those.Given as goal

abbrev pub invariant-loop-near : goal.invariant-loop-near
invariant-loop-near l =
    list_all (λ c. stays l.points.vectors l.fn.alpha.num l.fn.alpha.den c l.candidate) (ids_of (drop l.near-index l.nears)) ≡ list_all (λ c. stays l.points.vectors l.fn.alpha.num l.fn.alpha.den c l.candidate) (ids_of l.nears)
