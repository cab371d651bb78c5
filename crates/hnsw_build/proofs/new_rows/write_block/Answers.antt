use Rattle.std.proofs.Common.{◌≡◌, ◌+◌, ◌-◌, ◌*◌, ◌<◌, ◌≤◌, ◌∙◌, ◌++◌, ℕ, length, replicate, sym, ap, arith}
use Rattle.hnsw_build.specs.declared.layers.Layers.{Layers}
use Rattle.hnsw_build.specs.Layering.{level_in, top_of}
use Rattle.hnsw_build.specs.Grown.{build_in}
use Rattle.hnsw_build.proofs.PlanFacts.{plan_layered}
use Rattle.hnsw_build.proofs.GoodLayers.{point_level}
use Rattle.hnsw_build.proofs.new_rows.write_block.Goals as goal

rest_words : (level top size : ℕ) → level ≤ top → (top + 1) * size ≡ (level + 1) * size + (top - level) * size
rest_words level top size le =
    let split : top ≡ level + (top - level) = omega arith in
    ap (λ t. (t + 1) * size) split ∙ spread level (top - level) size
  where
    spread : (level more size : ℕ) → (level + more + 1) * size ≡ (level + 1) * size + more * size
    spread level more size = omega arith

-- a block is the rows of its point and what is behind them
behind : (w : Layers) (p len words : ℕ) → p < length w.plan.now.points.now.vectors → len ≡ (level_in w.plan.now.levels.items p + 1) * (w.plan.now.settings.degree + 1) → words ≡ (top_of w.plan.now.levels.items + 1) * (w.plan.now.settings.degree + 1)
    → words ≡ len + (top_of w.plan.now.levels.items - level_in w.plan.now.levels.items p) * (w.plan.now.settings.degree + 1)
behind w p len words at rows all =
    let levels = w.plan.now.levels.items in
    let most = point_level (build_in w) (plan_layered w.plan.now) p at in
    let split = rest_words (level_in levels p) (top_of levels) (w.plan.now.settings.degree + 1) most in
    all ∙ split ∙ ap (λ m. m + (top_of levels - level_in levels p) * (w.plan.now.settings.degree + 1)) (sym rows)

pub split_at_mut-rows-requires : goal.split_at_mut-rows-requires
split_at_mut-rows-requires c = let left = behind c.args.layers.now c.args.p _ _ c.requires.p c.rows_len-len.ensures c.requires.out in omega (arith, left)

pub returns-clause-out : goal.returns-clause-out
returns-clause-out c =
    let w = c.args.layers.now in
    let levels = w.plan.now.levels.items in
    let left = behind w c.args.p _ _ c.requires.p c.rows_len-len.ensures c.requires.out in
    let back = c.split_at_mut-rows.ensures.back_len in
    let zeros : length c.split_at_mut-rows.result.1.now ≡ (top_of levels - level_in levels c.args.p) * (w.plan.now.settings.degree + 1) = omega (arith, left, back) in
    (λ i. c.write_rows.ensures.out i ++ (c.clear.ensures ∙ ap (λ k. replicate k 0) zeros) i)
