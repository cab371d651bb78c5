use Rattle.std.proofs.Common.{arith}
use Rattle.lane_distance.proofs.Sums.{dist_small}
use Rattle.lane_distance.proofs.within.dist_within.Goals as goal

pub returns-then-a-lt-PIECE-clause-bound : goal.returns-then-a-lt-PIECE-clause-bound
returns-then-a-lt-PIECE-clause-bound c =
    let whole = dist_small c.args.a.now c.args.b.now c.type_inv.a c.type_inv.b in
    let all = c.dist_from.ensures in
    omega arith

pub overflow_add-total : goal.overflow_add-total
overflow_add-total c =
    let whole = dist_small c.args.a.now c.args.b.now c.type_inv.a c.type_inv.b in
    let so_far = c.loop-at.invariant.so_far in
    let piece = c.by_chunk-total.ensures in
    record { fits = omega arith }

pub returns-then-total-most-clause-bound : goal.returns-then-total-most-clause-bound
returns-then-total-most-clause-bound c =
    let whole = dist_small c.args.a.now c.args.b.now c.type_inv.a c.type_inv.b in
    let so_far = c.loop-at.invariant.so_far in
    let piece = c.by_chunk-total.ensures in
    omega arith

pub overflow_add-result : goal.overflow_add-result
overflow_add-result c =
    let whole = dist_small c.args.a.now c.args.b.now c.type_inv.a c.type_inv.b in
    let so_far = c.loop-at.invariant.so_far in
    let rest = c.dist_from-2.ensures in
    record { fits = omega arith }

pub returns-clause-bound : goal.returns-clause-bound
returns-clause-bound c =
    let whole = dist_small c.args.a.now c.args.b.now c.type_inv.a c.type_inv.b in
    let so_far = c.loop-at.invariant.so_far in
    let rest = c.dist_from-2.ensures in
    omega arith
