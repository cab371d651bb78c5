use Rattle.std.proofs.Common.{◌≡◌, ap, arith, w32}
use Rattle.std.proofs.lemmas.Simd.{sum_fits, fold-sum}
use Rattle.std.specs.Simd.Lanes.{zip2, chunk, sum_l}
use Rattle.ann_defs.specs.Distance.{squared_gap}
use Rattle.lane_distance.proofs.Sums.{dist_more, rest_small}
use Rattle.lane_distance.proofs.lanes.by_chunk.Goals as goal

pub overflow_add-result : goal.overflow_add-result
overflow_add-result g c =
    let a = c.args.a.now in
    let b = c.args.b.now in
    let more = dist_more c.args.at g.row.N a b in
    let here : sum_l c.squares.result ≡ sum_l (zip2 squared_gap (chunk c.args.at g.row.N a) (chunk c.args.at g.row.N b)) = ap sum_l c.squares.ensures in
    let whole = rest_small c.args.at a b c.type_inv.a c.type_inv.b in
    sum_fits w32 0 c.squares.result (omega arith)

pub returns : goal.returns
returns g c =
    let a = c.args.a.now in
    let b = c.args.b.now in
    let more = dist_more c.args.at g.row.N a b in
    let here : sum_l c.squares.result ≡ sum_l (zip2 squared_gap (chunk c.args.at g.row.N a) (chunk c.args.at g.row.N b)) = ap sum_l c.squares.ensures in
    let total = fold-sum 0 c.squares.result in
    omega arith
