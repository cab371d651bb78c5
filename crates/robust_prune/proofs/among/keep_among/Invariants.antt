use Rattle.std.proofs.Common.{◌≡◌, ◌<◌, ◌+◌, ◌-◌, length, take, drop}
use Rattle.std.specs.List.{All}
use Rattle.ann_defs.specs.RobustPrune.{stays}
use Rattle.robust_prune.proofs.TwoLists.{IsAmong}
use Rattle.robust_prune.proofs.among.keep_among.Given as goal

abbrev pub invariant-loop-i : goal.invariant-loop-i
invariant-loop-i l = record {
  among : IsAmong (stays l.points.vectors l.alpha.num l.alpha.den) l.degree l.settled l.fn.others l.others l.out l.i l.j l.fresh l.len;
  row : All (λ c. c < length l.points.vectors) (take l.len l.out);
  ids : All (λ x. x.id < length l.points.vectors) l.others;
  rest : drop l.len l.out ≡ drop l.len l.fn.out;
}

abbrev pub decreases-loop-i : goal.decreases-loop-i
decreases-loop-i l = length l.settled + length l.fn.others - (l.i + l.j)
