use Rattle.std.proofs.Common.{◌≡◌, ◌+◌, ◌-◌, ◌*◌, ◌≤◌, ◌∙◌, ◌++◌, ℕ, List, map, take, drop, length, sym, ap, subst, arith, length-take, length-drop}
use Rattle.std.proofs.lemmas.List.{length-map, map-append}
use Rattle.std.proofs.Math.Nat.{mul-le-mul_right}
use Rattle.std.proofs.Math.Seq.{take-add}
use Rattle.hnsw_build.specs.Layering.{top_of}
use Rattle.hnsw_build.specs.Grown.{build_in, layers_in}
use Rattle.hnsw_build.specs.Wanted.{block_of_point, rows_of_point, point_blocks}
use Rattle.hnsw_build.proofs.PlanFacts.{plan_low}
use Rattle.hnsw_build.proofs.blocks.new_rows.Goals as goal

few_words : (count top degree : ℕ) → count ≤ 4096 → top ≤ 15 → degree ≤ 64 → count * ((top + 1) * (degree + 1)) ≤ 134217728
few_words count top degree few low narrow =
    let row : (top + 1) * (degree + 1) ≤ 16 * (degree + 1) = mul-le-mul_right {m = top + 1} {n = 16} (degree + 1) (omega arith) in
    let all : count * ((top + 1) * (degree + 1)) ≤ 4096 * ((top + 1) * (degree + 1)) = mul-le-mul_right {m = count} {n = 4096} ((top + 1) * (degree + 1)) few in
    omega (arith, row, all)

pub run_round-requires-clause-small : goal.run_round-requires-clause-small
run_round-requires-clause-small g c κs within =
    let w = c.args.layers.now in
    let part = take (c.min-to.result - c.loop-from.from) (drop c.loop-from.from c.args.batch.now) in
    let count : length (point_blocks (build_in w) (layers_in w) part) ≡ length part = length-map part (block_of_point (build_in w) (layers_in w)) in
    let short : length part ≤ 4096 = simp (length-take, length-drop) (omega arith) in
    let top = top_of w.plan.now.levels.items in
    let degree = w.plan.now.settings.degree in
    subst (λ n. n * ((top + 1) * (degree + 1)) ≤ 134217728) (sym count) (few_words (length part) top degree short (plan_low w.plan.now) w.plan.now.degree.1)

pub loop-from-preserved : goal.loop-from-preserved
loop-from-preserved g c =
    let w = c.args.layers.now in
    let b = build_in w in
    let layers = layers_in w in
    let batch = c.args.batch.now in
    let from = c.loop-from.from in
    let to = c.min-to.result in
    let up : from + (to - from) ≡ to = omega arith in
    let all : take to batch ≡ take from batch ++ take (to - from) (drop from batch) = ap (λ k. take k batch) (sym up) ∙ take-add from (to - from) batch in
    record {
      rows =
          c.in_ok-keep_rows.ensures
          ∙ ap (λ (xs : List (List ℕ)). xs ++ map (rows_of_point b layers) (take (to - from) (drop from batch))) c.loop-from.invariant.rows
          ∙ sym (ap (map (rows_of_point b layers)) all ∙ map-append (rows_of_point b layers) (take from batch) (take (to - from) (drop from batch)));
      within = omega arith;
      serve = c.in_ok-blocks.ensures.serve;
      workers = c.in_ok-blocks.ensures.workers ∙ c.loop-from.invariant.workers;
    }
