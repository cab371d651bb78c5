use Rattle.std.proofs.Common.{◌≡◌, ◌+◌, ◌*◌, ◌≤◌, ◌∙◌, ℕ, List, length, ap, arith}
use Rattle.std.specs.List.{range_with_len, sum_by}
use Rattle.std.proofs.Math.Nat.{mul-le-mul_right}
use Rattle.graph_rows.specs.WellFormed.{layer_words}
use Rattle.hnsw_build.specs.Layering.{ids_in, top_of}
use Rattle.hnsw_build.proofs.Ranges.{sum_ones_more, ended}
use Rattle.hnsw_build.proofs.plan.HnswPlan.words.Goals as goal

pub loop-layer-preserved : goal.loop-layer-preserved
loop-layer-preserved c =
    let plan = c.args.self.now in
    let levels = plan.levels.items in
    let d = plan.settings.degree in
    let k = c.loop-layer.layer in
    let f : ℕ → ℕ = λ (l : ℕ). layer_words (length (ids_in levels l)) d in
    let some : 1 ≤ k = c.loop-layer.auto.layer in
    let count : c.from.result ≡ length (ids_in levels k) = c.from.ensures ∙ c.members.ensures.value ∙ ap (λ (ls : List ℕ). length (ids_in ls k)) c.as_slice.ensures.value in
    let row : c.from-degree.result ≡ d = c.from-degree.ensures in
    let more : c.from.result * (c.from-degree.result + 1) ≡ f k = λ i. count i * (row i + 1) in
    let few : c.from.result ≤ 4194304 =
    let bound = c.members.ensures.bound in
    let same = c.from.ensures in
    let shown : length c.as_slice.result.now ≡ length levels = ap (λ (ls : List ℕ). length ls) c.as_slice.ensures.value in
    let points = plan.levelled in
    let limit = plan.count.1 in
    omega (arith, bound, same, shown, points, limit) in
    let narrow = plan.degree.1 in
    let product : c.from.result * (c.from-degree.result + 1) ≤ 4194304 * (c.from-degree.result + 1) = mul-le-mul_right {m = c.from.result} {n = 4194304} (c.from-degree.result + 1) few in
    let so_far = c.loop-layer.invariant.bound in
    record {
      value = (λ i. c.loop-layer.invariant.value i + more i) ∙ (let sum = sum_ones_more f k some in omega (arith, sum));
      bound = omega (arith, product, so_far, row, narrow);
    }

pub returns : goal.returns
returns c =
    let levels = c.args.self.now.levels.items in
    let d = c.args.self.now.settings.degree in
    let at = ended (top_of levels) c.top-layer-end.result c.loop-layer.layer c.top-layer-end.ensures.value c.loop-layer.auto.layer c.loop-layer.auto.layer-end c.loop-layer-test.false in
    c.loop-layer.invariant.value ∙ ap (λ n. layer_words (length levels) (d + d) + sum_by (λ l. layer_words (length (ids_in levels l)) d) (range_with_len 1 n)) at
