use Rattle.std.proofs.Common.{arith}
use Rattle.lane_distance.proofs.Sums.{rest_small}
use Rattle.lane_distance.proofs.squared.dist_from.Goals as goal

pub overflow_add-result : goal.overflow_add-result
overflow_add-result c =
    let whole = rest_small c.args.from c.args.a.now c.args.b.now c.type_inv.a c.type_inv.b in
    let first = c.by_lanes-in_32.ensures.sum in
    let second = c.by_lanes-in_16.ensures.sum in
    record { fits = omega arith }

pub overflow_add-result-2 : goal.overflow_add-result-2
overflow_add-result-2 c =
    let whole = rest_small c.args.from c.args.a.now c.args.b.now c.type_inv.a c.type_inv.b in
    let first = c.by_lanes-in_32.ensures.sum in
    let second = c.by_lanes-in_16.ensures.sum in
    let third = c.by_bytes.ensures in
    record { fits = omega arith }
