use Rattle.std.proofs.Common.{arith}
use Rattle.lane_distance.proofs.Sums.{dist_small}
use Rattle.lane_distance.proofs.squared.dist.Goals as goal

pub returns-clause-bound : goal.returns-clause-bound
returns-clause-bound c =
    let whole = dist_small c.args.a.now c.args.b.now c.type_inv.a c.type_inv.b in
    let all = c.dist_from.ensures in
    omega arith
