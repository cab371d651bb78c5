use Rattle.std.proofs.Common.{◌≡◌, ◌+◌, ◌<◌, ◌≤◌, ◌∙◌, ◌++◌, ◌∷◌, [], ℕ, List, Vec, Global, true, false, cond, map, take, length, get_or, refl, sym, ap, arith}
use Rattle.std.specs.List.{filter}
use Rattle.std.proofs.lemmas.List.{get_or_default, map_push, map-append, length_push, append-nil}
use Rattle.std.proofs.lemmas.List.Elements.{filter_more}
use Rattle.batch_insert.specs.Padded.{padded}
use Rattle.hnsw_build.specs.Layering.{level_in, is_in}
use Rattle.hnsw_build.specs.LayeredInsert.{new_row_in}
use Rattle.hnsw_build.specs.Grown.{build_in, layers_in}
use Rattle.hnsw_build.specs.Wanted.{rows_of_point}
use Rattle.hnsw_build.proofs.LevelFacts.{held_level, level_held}
use Rattle.hnsw_build.proofs.LayerBlocks.{items_of, row_of_vec, part_within, part_is}
use Rattle.hnsw_build.proofs.layer_rows.batch_blocks.Goals as goal
use Rattle.hnsw_build.proofs.layer_rows.batch_blocks.Goals.{then-index-layer+in_ok-block+in_ok-push, else-index-layer}

pub part_of-requires : goal.part_of-requires
part_of-requires c =
    let w = c.args.batch.now.layers.now in
    let levels = w.plan.now.levels.items in
    let batch = c.args.batch.now.ids.now in
    let i = c.loop-i.i in
    let p = get_or batch i 0 in
    let at : p < length levels = let below = c.args.batch.now.inside i 0 c.loop-i-test.true in let all = w.plan.now.levelled in omega (arith, below, all) in
    let level : c.index.result.now ≡ level_in levels p = c.index.ensures ∙ get_or_default levels p c.index.result.now 0 at in
    let row = c.as_slice.ensures.value ∙ sym (ap items_of c.index-batch-i.is) ∙ row_of_vec (rows_of_point (build_in w) (layers_in w)) c.args.batch.now.rows.now batch i c.index-batch-i.result c.args.batch.now.rows_are c.loop-i-test.true c.index-batch-i.is in
    part_within (build_in w) (layers_in w) p c.args.layer c.as_slice.result.now row (let high = c.if-index-layer.true in omega (arith, high, level))

pub loop-i-preserved : goal.loop-i-preserved
loop-i-preserved c =
    let w = c.args.batch.now.layers.now in
    let b = build_in w in
    let layers = layers_in w in
    let levels = w.plan.now.levels.items in
    let batch = c.args.batch.now.ids.now in
    let i = c.loop-i.i in
    let l = c.args.layer in
    let p = get_or batch i 0 in
    let at : p < length levels = let below = c.args.batch.now.inside i 0 c.loop-i-test.true in let all = w.plan.now.levelled in omega (arith, below, all) in
    let level : c.index.result.now ≡ level_in levels p = c.index.ensures ∙ get_or_default levels p c.index.result.now 0 at in
    let block_of : ℕ → List ℕ = λ (q : ℕ). padded (w.plan.now.settings.degree + 1) (new_row_in b layers l q) in
    let before = filter (is_in levels l) (take i batch) in
    let more : filter (is_in levels l) (take (i + 1) batch) ≡ before ++ cond (is_in levels l p) (p ∷ []) [] = filter_more (is_in levels l) batch i 0 c.loop-i-test.true in
    let few = c.loop-i.invariant.few in
    elim c.if-index-layer.branch [
      | then-index-layer+in_ok-block+in_ok-push w2 ↦
          let high = w2.if-index-layer.true in
          let low : l ≤ level_in levels p = omega (arith, high, level) in
          let held : is_in levels l p ≡ true = level_held levels l p at low in
          let words = w2.as_slice.ensures.value ∙ sym (ap items_of w2.index-batch-i.is) ∙ row_of_vec (rows_of_point b layers) c.args.batch.now.rows.now batch i w2.index-batch-i.result c.args.batch.now.rows_are c.loop-i-test.true w2.index-batch-i.is in
          let block : w2.in_ok-block.block.items ≡ block_of p = w2.in_ok-block.ensures ∙ part_is b layers p l w2.as_slice.result.now words low in
          let pushed : c.if-index-layer.blocks.items ≡ c.loop-i.blocks.items ++ w2.in_ok-block.block ∷ [] = ap (λ (v : Vec (Vec ℕ Global) Global). v.items) w2.blocks-is ∙ w2.in_ok-push.ensures.items in
          record {
            blocks =
                ap (map items_of) pushed
                ∙ map_push items_of c.loop-i.blocks.items w2.in_ok-block.block
                ∙ (λ j. c.loop-i.invariant.blocks j ++ block j ∷ [])
                ∙ sym (ap (map block_of) (more ∙ ap (λ t. before ++ cond t (p ∷ []) []) held) ∙ map-append block_of before (p ∷ []));
            few = let one = ap (λ (xs : List (Vec ℕ Global)). length xs) pushed ∙ length_push c.loop-i.blocks.items w2.in_ok-block.block in omega (arith, one, few);
          }
      | else-index-layer w2 ↦
          let less = w2.if-index-layer.false in
          let out : is_in levels l p ≡ false = elim (is_in levels l p) as (λ t. is_in levels l p ≡ t → t ≡ false) [
            | true ↦ λ h. let high = held_level levels l p h in absurd (omega (arith, high, less, level))
            | false ↦ λ _. refl
          ] refl in
          let same : c.if-index-layer.blocks.items ≡ c.loop-i.blocks.items = ap (λ (v : Vec (Vec ℕ Global) Global). v.items) w2.blocks-is in
          record {
            blocks =
                ap (map items_of) same
                ∙ c.loop-i.invariant.blocks
                ∙ sym (ap (map block_of) (more ∙ ap (λ t. before ++ cond t (p ∷ []) []) out ∙ append-nil before));
            few = let one = ap (λ (xs : List (Vec ℕ Global)). length xs) same in omega (arith, one, few);
          }
    ]
