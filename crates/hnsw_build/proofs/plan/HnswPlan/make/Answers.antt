use Rattle.std.proofs.Common.{◌∙◌, ◌≤◌, ℕ, List, length, sym, ap, subst, arith}
use Rattle.std.specs.List.{All, range_with_len}
use Rattle.std.proofs.lemmas.List.FromFn.{length-map-range_with_len}
use Rattle.ann_defs.proofs.Order.{has-map}
use Rattle.ann_defs.proofs.Members.{all_from_has}
use Rattle.seeded_order.specs.Words.{word_of}
use Rattle.seeded_order.specs.Levels.{level_of, levels_of}
use Rattle.hnsw_build.proofs.plan.HnswPlan.make.Goals as goal

level_low : (bits most word : ℕ) → level_of bits most word ≤ most
level_low bits most word = omega arith

levels_low : (n seed bits most : ℕ) → most ≤ 15 → All (λ l. l ≤ 15) (levels_of n seed bits most)
levels_low n seed bits most h = all_from_has (λ l. l ≤ 15) (levels_of n seed bits most) (λ l m.
    let from = has-map (λ id. level_of bits most (word_of seed 2 id)) (range_with_len 0 n) l m in
    let low = level_low bits most (word_of seed 2 from.0) in
    subst (λ (k : ℕ). k ≤ 15) from.2 (omega (arith, low, h)))

pub of_levels-requires-clause-levels : goal.of_levels-requires-clause-levels
of_levels-requires-clause-levels c =
    ap (λ (ls : List ℕ). length ls) c.in_ok-drawn.ensures ∙ length-map-range_with_len (λ id. level_of c.args.settings.bits c.args.settings.max_level (word_of c.args.settings.seed 2 id)) 0 c.count.result ∙ c.count.ensures.value

pub of_levels-requires-clause-low : goal.of_levels-requires-clause-low
of_levels-requires-clause-low c = subst (λ (ls : List ℕ). All (λ l. l ≤ 15) ls) (sym c.in_ok-drawn.ensures) (levels_low c.count.result c.args.settings.seed c.args.settings.bits c.args.settings.max_level c.requires.max_level)
