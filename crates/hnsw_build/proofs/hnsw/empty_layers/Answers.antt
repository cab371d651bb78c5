use Rattle.std.proofs.Common.{◌≡◌, ◌+◌, ◌*◌, ◌≤◌, ◌∙◌, ◌++◌, ◌∷◌, [], ℕ, List, map, length, sym, ap, subst, arith}
use Rattle.std.specs.List.{range_with_len}
use Rattle.ann_defs.specs.Ordered.{Ascends}
use Rattle.hnsw_build.specs.Layering.{top_of, ids_in}
use Rattle.hnsw_build.proofs.LevelFacts.{ids_ascend}
use Rattle.hnsw_build.proofs.Ranges.{map_ones_more, ended}
use Rattle.hnsw_build.proofs.NewLayers.{ids_some, layer_fits, first_layer, bare_entry, upper_first}
use Rattle.hnsw_build.proofs.hnsw.empty_layers.Goals as goal

pub new-requires-clause-some : goal.new-requires-clause-some
new-requires-clause-some c =
    let plan = c.args.plan.now in
    let levels = plan.levels.items in
    let l = c.loop-layer.layer in
    let top = c.top-layer-end.ensures.value in
    let at = c.loop-layer-test.true in
    let is : c.in_ok-ids.ids.items ≡ ids_in levels l = c.in_ok-ids.ensures ∙ ap (λ (ls : List ℕ). ids_in ls l) c.as_slice.ensures.value in
    let some = ids_some plan l (omega (arith, top, at)) in
    let count = c.in_ok-ids.ids.ok.0 in
    let same = ap (λ (ids : List ℕ). length ids) is in
    omega (arith, some, count, same)

pub new-requires-clause-ascend : goal.new-requires-clause-ascend
new-requires-clause-ascend c =
    let plan = c.args.plan.now in
    let levels = plan.levels.items in
    let l = c.loop-layer.layer in
    subst Ascends (sym (c.in_ok-ids.ensures ∙ ap (λ (ls : List ℕ). ids_in ls l) c.as_slice.ensures.value)) (ids_ascend levels l)

pub new-requires-clause-words : goal.new-requires-clause-words
new-requires-clause-words c =
    let plan = c.args.plan.now in
    let levels = plan.levels.items in
    let l = c.loop-layer.layer in
    let is : c.in_ok-ids.ids.items ≡ ids_in levels l = c.in_ok-ids.ensures ∙ ap (λ (ls : List ℕ). ids_in ls l) c.as_slice.ensures.value in
    let count : c.in_ok-ids.ids.len ≡ length (ids_in levels l) = c.in_ok-ids.ids.ok.0 ∙ ap (λ (ids : List ℕ). length ids) is in
    subst (λ m. m * (plan.settings.degree + 1) ≤ 134217728) (sym count) (layer_fits plan c.requires l)

pub loop-layer-preserved : goal.loop-layer-preserved
loop-layer-preserved c =
    let plan = c.args.plan.now in
    let levels = plan.levels.items in
    let l = c.loop-layer.layer in
    let is : c.in_ok-ids.ids.items ≡ ids_in levels l = c.in_ok-ids.ensures ∙ ap (λ (ls : List ℕ). ids_in ls l) c.as_slice.ensures.value in
    let layer : c.in_ok-new.field-0 ≡ first_layer plan l = c.in_ok-new.ensures ∙ (λ i. record { width = plan.settings.degree; entries = map bare_entry (is i) }) in
    c.in_ok-push.ensures.items
    ∙ (λ i. c.loop-layer.invariant i ++ layer i ∷ [])
    ∙ sym (map_ones_more (first_layer plan) l c.loop-layer.auto.layer)

pub returns : goal.returns
returns c =
    let plan = c.args.plan.now in
    let at = ended (top_of plan.levels.items) c.top-layer-end.result c.loop-layer.layer c.top-layer-end.ensures.value c.loop-layer.auto.layer c.loop-layer.auto.layer-end c.loop-layer-test.false in
    c.loop-layer.invariant ∙ ap (λ n. map (first_layer plan) (range_with_len 1 n)) at ∙ upper_first plan
