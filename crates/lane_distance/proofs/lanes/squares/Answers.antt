use Rattle.std.specs.Simd.Lanes.{chunk}
use Rattle.lane_distance.proofs.Gaps.{gaps_fit, squares_fit, squares_are, bytes_in}
use Rattle.lane_distance.proofs.lanes.squares.Goals as goal

pub overflow_cast-gap : goal.overflow_cast-gap
overflow_cast-gap g c = gaps_fit (chunk c.args.at g.row.N c.args.a.now) (chunk c.args.at g.row.N c.args.b.now)

pub overflow_cast-result : goal.overflow_cast-result
overflow_cast-result g c = squares_fit (chunk c.args.at g.row.N c.args.a.now) (chunk c.args.at g.row.N c.args.b.now) (bytes_in c.args.at g.row.N c.args.a.now c.type_inv.a) (bytes_in c.args.at g.row.N c.args.b.now c.type_inv.b)

pub returns : goal.returns
returns g c = squares_are (chunk c.args.at g.row.N c.args.a.now) (chunk c.args.at g.row.N c.args.b.now) (bytes_in c.args.at g.row.N c.args.a.now c.type_inv.a) (bytes_in c.args.at g.row.N c.args.b.now c.type_inv.b)
