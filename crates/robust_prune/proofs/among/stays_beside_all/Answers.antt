use Rattle.std.proofs.Common.{get_or, arith}
use Rattle.std.proofs.lemmas.Grind.{common_steps}
use Rattle.robust_prune.proofs.Covering.{beyond_one}
use Rattle.robust_prune.proofs.among.stays_beside_all.Goals as goal

pub loop-neighbour-preserved : goal.loop-neighbour-preserved
loop-neighbour-preserved c =
    let some = c.args.alpha.some in
    let above = c.args.alpha.ordered in
    let told = beyond_one c.args.points.now.vectors c.args.alpha.num c.args.alpha.den c.most_covered-most.result c.args.candidate (get_or c.args.row.now c.loop-neighbour.neighbour-index 0) (omega (arith, some, above)) c.most_covered-most.ensures in
    grind (arith, common_steps)
