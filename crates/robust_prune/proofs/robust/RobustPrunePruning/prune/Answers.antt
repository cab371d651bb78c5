use Rattle.ann_defs.specs.Nearness.{ids_of}
use Rattle.robust_prune.proofs.Apart.{row_apart}
use Rattle.robust_prune.proofs.robust.RobustPrunePruning.prune.Goals as goal

pub returns-clause-apart : goal.returns-clause-apart
returns-clause-apart c = let s = c.args.self.now in row_apart s.points.now.vectors s.alpha.num s.alpha.den c.args.p (ids_of c.args.cands.now) s.degree _ c.prune.ensures.row
