use Rattle.std.proofs.Common.{◌≡◌, ◌+◌, ◌-◌, ◌*◌, ◌<◌, ◌∙◌, ℕ, List, suc, true, drop, length, refl, sym, ap, subst, arith}
use Rattle.std.specs.List.{All}
use Rattle.std.proofs.lemmas.List.{get_or_default, drop_all}
use Rattle.ann_defs.specs.Graph.{without}
use Rattle.ann_defs.specs.GreedySearch.{found_of}
use Rattle.ann_defs.specs.Nearness.{ids_of}
use Rattle.ann_defs.specs.RobustPrune.{pruned_row}
use Rattle.ann_defs.specs.declared.near.Near.{Near}
use Rattle.ann_defs.proofs.Members.{all_from_has}
use Rattle.batch_insert.specs.Padded.{padded}
use Rattle.hnsw_build.specs.Layering.{level_in, is_in}
use Rattle.hnsw_build.specs.LayeredInsert.{entries_for, found_for, new_row_in, row_of_layer}
use Rattle.hnsw_build.specs.Grown.{build_in, layers_in}
use Rattle.hnsw_build.proofs.PlanFacts.{plan_layered}
use Rattle.hnsw_build.proofs.GoodLayers.{point_level, entries_for_held}
use Rattle.hnsw_build.proofs.Memory.{enterable, entered}
use Rattle.hnsw_build.proofs.LayersFacts.{good_in, upper_len}
use Rattle.hnsw_build.proofs.PointRows.{next_entries, no_rows, row_before}
use Rattle.hnsw_build.proofs.point_rows.write_rows.Goals as goal

pub enter-requires-clause-layers : goal.enter-requires-clause-layers
enter-requires-clause-layers c =
    let w = c.args.layers.now in
    let plan = w.plan.now in
    enterable plan.points.now.vectors plan.settings plan.levels.items (plan_layered plan) w.done w.upper.now w.upper_is c.start.result c.start.ensures.value

pub enter-requires-clause-to : goal.enter-requires-clause-to
enter-requires-clause-to c =
    let w = c.args.layers.now in
    let plan = w.plan.now in
    let levels = plan.levels.items in
    let in_levels : c.args.p < length levels = let at = c.requires.p in let all = plan.levelled in omega (arith, at, all) in
    let own : c.from-level.result ≡ level_in levels c.args.p = c.from-level.ensures ∙ c.index.ensures ∙ get_or_default levels c.args.p c.index.result.now 0 in_levels in
    let most = point_level (build_in w) (plan_layered plan) c.args.p c.requires.p in
    let many = upper_len w in
    omega (arith, own, most, many)

pub loop-layer-init : goal.loop-layer-init
loop-layer-init c =
    let w = c.args.layers.now in
    let plan = w.plan.now in
    let levels = plan.levels.items in
    let p = c.args.p in
    let size = plan.settings.degree + 1 in
    let in_levels : p < length levels = let at = c.requires.p in let all = plan.levelled in omega (arith, at, all) in
    let own : c.from-level.result ≡ level_in levels p = c.from-level.ensures ∙ c.index.ensures ∙ get_or_default levels p c.index.result.now 0 in_levels in
    let whole : (c.from-level.result + 1) * size ≡ length c.args.out.now = ap (λ l. (l + 1) * size) own ∙ sym c.requires.out in
    record {
      within = omega (arith, own);
      entries = λ k here. entered plan.points.now.vectors plan.settings levels (plan_layered plan) w.done w.upper.now w.upper_is p c.start.result c.from-level.result c.enter.result c.at-query.result.now c.requires.p c.at-query.ensures.value c.start.ensures.value own c.enter.ensures.entry k here;
      few = omega arith;
      many = refl;
      rows = ap (λ m. drop m c.args.out.now) whole ∙ drop_all (length c.args.out.now) c.args.out.now (omega arith) ∙ sym (no_rows (build_in w) (layers_in w) p (c.from-level.result + 1) (level_in levels p + 1 - (c.from-level.result + 1)) (omega (arith, own)));
      serves = record { count = c.enter.ensures.count ∙ c.requires.serves.count; beam_fits = let same = c.enter.ensures.beam in let fits = c.requires.serves.beam_fits in omega (arith, same, fits) };
    }

pub search_layer-requires-clause-layer : goal.search_layer-requires-clause-layer
search_layer-requires-clause-layer c =
    let w = c.args.layers.now in
    let most = point_level (build_in w) (plan_layered w.plan.now) c.args.p c.requires.p in
    let within = c.loop-layer.invariant.within in
    omega (arith, most, within)

pub search_layer-requires-clause-entries : goal.search_layer-requires-clause-entries
search_layer-requires-clause-entries c =
    let w = c.args.layers.now in
    let levels = w.plan.now.levels.items in
    let l = c.loop-layer.layer - 1 in
    let within = c.loop-layer.invariant.within in
    let here : c.loop-layer.layer ≡ suc l = omega arith in
    let entries = entries_for (build_in w) (layers_in w) c.args.p l in
    subst (λ (ids : List ℕ). All (λ u. is_in levels l u ≡ true) ids) (sym (c.loop-layer.invariant.entries l here))
    (all_from_has (λ u. is_in levels l u ≡ true) entries (entries_for_held (build_in w) (plan_layered w.plan.now) (layers_in w) (good_in w) c.args.p c.requires.p l (omega (arith, within))))

pub loop-layer-preserved : goal.loop-layer-preserved
loop-layer-preserved c =
    let w = c.args.layers.now in
    let plan = w.plan.now in
    let points = plan.points.now.vectors in
    let levels = plan.levels.items in
    let b = build_in w in
    let layers = layers_in w in
    let p = c.args.p in
    let l = c.loop-layer.layer - 1 in
    let within = c.loop-layer.invariant.within in
    let here : c.loop-layer.layer ≡ suc l = omega arith in
    let found : c.search_layer.new.scratch.last.found ≡ found_for b layers p l =
    c.search_layer.ensures.found ∙ (λ i. found_of points (row_of_layer layers l) (c.at-query.ensures.value i) plan.settings.beam (c.loop-layer.invariant.entries l here i)) in
    let row : c.write_row.new.out ≡ padded (plan.settings.degree + 1) (new_row_in b layers l p) =
    c.write_row.ensures.out ∙ ap (λ (nears : List Near). padded (plan.settings.degree + 1) (pruned_row points p (without p (ids_of nears)) 1 1 plan.settings.degree)) found in
    record {
      within = omega arith;
      entries = λ k down.
          let less : k < level_in levels p = omega (arith, down, within) in
          c.copy_found-count.ensures.ids ∙ ap ids_of found ∙ ap (λ j. ids_of (found_for b layers p j)) down ∙ sym (next_entries b layers p k less);
      few = omega arith;
      many = omega arith;
      rows = row_before b layers p c.loop-layer.layer (level_in levels p + 1) c.loop-layer.out c.write_row.new.out (omega arith) within (c.loop-layer.auto.out ∙ c.requires.out) row c.loop-layer.invariant.rows;
      serves = c.write_row.ensures.serves;
    }
