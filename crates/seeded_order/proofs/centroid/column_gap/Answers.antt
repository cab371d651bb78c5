use Rattle.std.proofs.Common.{arith}
use Rattle.seeded_order.proofs.Spreads.{gap_small, square_small}
use Rattle.seeded_order.proofs.centroid.column_gap.Goals as goal

pub overflow_mul-result : goal.overflow_mul-result
overflow_mul-result c =
    let few = gap_small c.args.n c.args.byte c.args.sum c.from.result c.from-2.result c.abs_diff-gap.result c.requires.n (omega arith) c.requires.sum c.from.ensures c.from-2.ensures c.abs_diff-gap.ensures in
    let most = square_small c.abs_diff-gap.result few in
    omega (arith, most)

pub returns-clause-bound : goal.returns-clause-bound
returns-clause-bound c =
    square_small c.abs_diff-gap.result (gap_small c.args.n c.args.byte c.args.sum c.from.result c.from-2.result c.abs_diff-gap.result c.requires.n (omega arith) c.requires.sum c.from.ensures c.from-2.ensures c.abs_diff-gap.ensures)
