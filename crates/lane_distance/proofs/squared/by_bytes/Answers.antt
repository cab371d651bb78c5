use Rattle.std.proofs.Common.{◌*◌, ◌≤◌, arith}
use Rattle.std.proofs.Math.Nat.{mul-le-mul}
use Rattle.lane_distance.proofs.Sums.{rest_small}
use Rattle.lane_distance.proofs.squared.by_bytes.Goals as goal

pub overflow_add-total : goal.overflow_add-total
overflow_add-total c =
    let whole = rest_small c.args.from c.args.a.now c.args.b.now c.type_inv.a c.type_inv.b in
    let so_far = c.loop-i.invariant.so_far in
    let gap = c.abs_diff-gap.result in
    let small : gap * gap ≤ 255 * 255 = mul-le-mul {n₁ = gap} {m₁ = gap} {n₂ = 255} {m₂ = 255} (omega arith) (omega arith) in
    record { fits = omega arith }
