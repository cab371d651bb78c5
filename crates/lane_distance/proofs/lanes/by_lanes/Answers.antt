use Rattle.std.proofs.Common.{◌≡◌, ◌+◌, length, replicate, ap, sym, ◌∙◌, arith, w32}
use Rattle.std.proofs.lemmas.Simd.{adds_fit, sum_fits, sum-zip2, length-zip2, fold-sum, length-chunk, length-replicate}
use Rattle.std.specs.Simd.Lanes.{zip2, chunk, sum_l}
use Rattle.ann_defs.specs.Distance.{squared_gap}
use Rattle.lane_distance.proofs.Sums.{sum-zeros, dist_more, rest_small}
use Rattle.lane_distance.proofs.lanes.by_lanes.Goals as goal

pub loop-at-init : goal.loop-at-init
loop-at-init g c =
    let none : sum_l (replicate g.row.N 0) ≡ 0 = sum-zeros g.row.N in
    record { so_far = omega arith; lanes = length-replicate g.row.N 0; inside = c.requires.from }

pub overflow_add-sums : goal.overflow_add-sums
overflow_add-sums g c =
    let a = c.args.a.now in
    let b = c.args.b.now in
    let more = dist_more c.loop-at.at g.row.N a b in
    let here : sum_l c.squares-sums.result ≡ sum_l (zip2 squared_gap (chunk c.loop-at.at g.row.N a) (chunk c.loop-at.at g.row.N b)) = ap sum_l c.squares-sums.ensures in
    let whole = rest_small c.args.from a b c.type_inv.a c.type_inv.b in
    let so_far = c.loop-at.invariant.so_far in
    adds_fit w32 c.loop-at.sums c.squares-sums.result (omega arith)

pub loop-at-preserved : goal.loop-at-preserved
loop-at-preserved g c =
    let a = c.args.a.now in
    let b = c.args.b.now in
    let more = dist_more c.loop-at.at g.row.N a b in
    let here : sum_l c.squares-sums.result ≡ sum_l (zip2 squared_gap (chunk c.loop-at.at g.row.N a) (chunk c.loop-at.at g.row.N b)) = ap sum_l c.squares-sums.ensures in
    let so_far = c.loop-at.invariant.so_far in
    let long : length c.squares-sums.result ≡ g.row.N = ap length c.squares-sums.ensures
    ∙ length-zip2 squared_gap (chunk c.loop-at.at g.row.N a) (chunk c.loop-at.at g.row.N b) (length-chunk c.loop-at.at g.row.N a (omega arith) ∙ sym (length-chunk c.loop-at.at g.row.N b (omega arith)))
    ∙ length-chunk c.loop-at.at g.row.N a (omega arith) in
    let alike : length c.loop-at.sums ≡ length c.squares-sums.result = c.loop-at.invariant.lanes ∙ sym long in
    let added = sum-zip2 c.loop-at.sums c.squares-sums.result alike in
    record {
      so_far = omega arith;
      lanes = length-zip2 (λ x y. x + y) c.loop-at.sums c.squares-sums.result alike ∙ c.loop-at.invariant.lanes;
      inside = omega arith;
    }

pub overflow_add-result : goal.overflow_add-result
overflow_add-result g c =
    let whole = rest_small c.args.from c.args.a.now c.args.b.now c.type_inv.a c.type_inv.b in
    let so_far = c.loop-at.invariant.so_far in
    sum_fits w32 0 c.loop-at.sums (omega arith)

pub returns-clause-sum : goal.returns-clause-sum
returns-clause-sum g c =
    let total = fold-sum 0 c.loop-at.sums in
    let so_far = c.loop-at.invariant.so_far in
    omega arith
