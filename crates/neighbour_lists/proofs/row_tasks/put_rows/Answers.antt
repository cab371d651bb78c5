use Rattle.std.proofs.Common.{◌≡◌, ◌+◌, ◌-◌, ◌*◌, ◌≤◌, ◌∙◌, ◌++◌, ℕ, List, take, drop, length, refl, sym, ap, subst, arith, length-take, length-drop}
use Rattle.std.proofs.lemmas.List.{length-map}
use Rattle.std.proofs.Math.Nat.{mul-le-mul_right}
use Rattle.std.proofs.Math.Seq.{take-add}
use Rattle.batch_insert.specs.Padded.{padded}
use Rattle.neighbour_lists.specs.WrittenRows.{row_blocks, with_rows}
use Rattle.neighbour_lists.proofs.NewRows.{length-with_rows, with_none, with_both}
use Rattle.neighbour_lists.proofs.row_tasks.put_rows.Goals as goal

few_words : (count most : ℕ) → count ≤ 4096 → most ≤ 128 → count * (most + 1) ≤ 134217728
few_words count most few narrow =
    let all : count * (most + 1) ≤ 4096 * (most + 1) = mul-le-mul_right {m = count} {n = 4096} (most + 1) few in
    omega (arith, all)

pub loop-from-init : goal.loop-from-init
loop-from-init g c = record {
  rows = with_none (g.L.RowRule.row_of c.args.rule.now) c.args.rows.now.rows;
  width = refl;
  within = omega arith;
  serve = c.requires.serve;
  workers = refl;
}

pub run_round-requires-clause-small : goal.run_round-requires-clause-small
run_round-requires-clause-small g c κs within =
    let row = g.L.RowRule.row_of c.args.rule.now in
    let most = g.L.RowRule.most c.args.rule.now in
    let part = take (c.min-to.result - c.loop-from.from) (drop c.loop-from.from c.args.ids.now) in
    let count : length (row_blocks row most part) ≡ length part = length-map part (λ v. padded (most + 1) (row v)) in
    let short : length part ≤ 4096 = simp (length-take, length-drop) (omega arith) in
    subst (λ n. n * (most + 1) ≤ 134217728) (sym count) (few_words (length part) most short c.requires.narrow)

pub put-requires-clause-count : goal.put-requires-clause-count
put-requires-clause-count g c κs within =
    ap (λ (xs : List (List ℕ)). length xs) c.loop-from.invariant.rows
    ∙ length-with_rows (g.L.RowRule.row_of c.args.rule.now) c.args.rows.now.rows (take c.loop-from.from c.args.ids.now)
    ∙ c.requires.count

pub loop-from-preserved : goal.loop-from-preserved
loop-from-preserved g c =
    let row = g.L.RowRule.row_of c.args.rule.now in
    let ids = c.args.ids.now in
    let old = c.args.rows.now.rows in
    let from = c.loop-from.from in
    let to = c.min-to.result in
    let up : from + (to - from) ≡ to = omega arith in
    let all : take to ids ≡ take from ids ++ take (to - from) (drop from ids) = ap (λ k. take k ids) (sym up) ∙ take-add from (to - from) ids in
    record {
      rows =
          c.put.ensures.rows
          ∙ ap (with_rows row (take (to - from) (drop from ids))) c.loop-from.invariant.rows
          ∙ with_both row old (take from ids) (take (to - from) (drop from ids))
          ∙ ap (λ (us : List ℕ). with_rows row us old) (sym all);
      width = c.put.ensures.width ∙ c.loop-from.invariant.width;
      within = omega arith;
      serve = c.in_ok-blocks.ensures.serve;
      workers = c.in_ok-blocks.ensures.workers ∙ c.loop-from.invariant.workers;
    }
