use Rattle.std.proofs.Common.{◌≡◌, ◌∙◌, ℕ, Bool, length, get_or, sym, ap, arith}
use Rattle.std.specs.Prelude.{◌==◌}
use Rattle.std.specs.List.{position_or_len}
use Rattle.std.proofs.lemmas.Bool.{eq-eqb}
use Rattle.std.proofs.lemmas.List.Sums.{position_or_len_is}
use Rattle.std.proofs.Math.ListN.{get_or-eq_default}
use Rattle.hnsw_build.specs.Layering.{level_in, top_of}
use Rattle.hnsw_build.proofs.entry.entry_point.Goals as goal

pub returns-then-levels-id : goal.returns-then-levels-id
returns-then-levels-id c =
    let levels = c.args.levels.now in
    let order = c.args.order.now in
    let i = c.loop-id.id-index in
    let is_top : ℕ → Bool = λ id. level_in levels id == top_of levels in
    let here : level_in levels (get_or order i 0) ≡ top_of levels = c.if-levels-id.true ∙ c.top_level-top.ensures in
    let at : position_or_len is_top order ≡ i = position_or_len_is is_top order i 0 (omega arith) c.loop-id.invariant (λ _. eq-eqb (level_in levels (get_or order i 0)) (top_of levels) here) in
    ap (λ k. get_or order k 0) (sym at)

pub returns : goal.returns
returns c =
    let levels = c.args.levels.now in
    let order = c.args.order.now in
    let is_top : ℕ → Bool = λ id. level_in levels id == top_of levels in
    let at : position_or_len is_top order ≡ length order = position_or_len_is is_top order (length order) 0 (omega arith) (λ k less. c.loop-id.invariant k (omega (arith, less))) (λ less. absurd (omega arith)) in
    sym (ap (λ k. get_or order k 0) at ∙ get_or-eq_default order 0 (omega arith))
