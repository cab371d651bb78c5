use Rattle.std.proofs.Common.{◌≡◌, ◌∙◌, sym, ap, length, List, ℕ}
use Rattle.ann_defs.specs.Distance.{PointSet}
use Rattle.ann_defs.specs.declared.kinds.Kind.TheVariants.{Vamana, Hnsw, Nnd}
use Rattle.seeded_order.specs.Levels.{levels_of}
use Rattle.hnsw_build.specs.Layering.{words_in}
use Rattle.hnsw_build.specs.declared.settings.HnswSettings.{HnswSettings}
use Rattle.index_build.specs.IndexOf.{nnd_words}
use Rattle.index_build.specs.Limits.{words_refusal}
use Rattle.index_build.proofs.IndexFacts.{built_is, same_layers, layered_is, same_lists}
use Rattle.index_build.proofs.by_kind.plain_index.Goals as goal

vectors_of : (a b : PointSet) → a ≡ b → a.vectors ≡ b.vectors
vectors_of a b e = ap (λ (x : PointSet). x.vectors) e

levels_by : (n : ℕ) (s t : HnswSettings) → s ≡ t → levels_of n s.seed s.bits s.max_level ≡ levels_of n t.seed t.bits t.max_level
levels_by n s t e = λ i. levels_of n (e i).seed (e i).bits (e i).max_level

same_words : (l m : List ℕ) (s t : HnswSettings) → l ≡ m → s ≡ t → words_in l s.degree ≡ words_in m t.degree
same_words l m s t e f = λ i. words_in (e i) (f i).degree

pub returns-in_ok-vamana_index-in-Vamana : goal.returns-in_ok-vamana_index-in-Vamana
returns-in_ok-vamana_index-in-Vamana g c =
    built_is _ c.args.points.now c.args.options.now Vamana c.in-Vamana.is (ap words_refusal (sym c.words_for_vamana.ensures) ∙ c.in_ok-check_words-in-Vamana.ensures.ok)
    c.in_ok-vamana_index-in-Vamana.ensures.index c.in_ok-vamana_index-in-Vamana.ensures.well_formed

pub returns-in_ok-layered_index-in-Hnsw : goal.returns-in_ok-layered_index-in-Hnsw
returns-in_ok-layered_index-in-Hnsw g c =
    let X = c.args.points.now.vectors in
    let plan = c.in_ok-plan-in-Hnsw.ensures in
    let asked = c.settings_for_hnsw.ensures in
    let settings = plan.settings ∙ asked in
    let levels = plan.levels ∙ levels_by (length X) _ _ asked in
    built_is _ c.args.points.now c.args.options.now Hnsw c.in-Hnsw.is (ap words_refusal (sym (c.words.ensures ∙ same_words _ _ _ _ levels settings)) ∙ c.in_ok-check_words-in-Hnsw.ensures.ok)
    (c.in_ok-layered_index-in-Hnsw.ensures.index ∙ same_layers _ _ _ _ _ _ (vectors_of _ _ plan.points) settings levels ∙ layered_is X c.args.options.now)
    c.in_ok-layered_index-in-Hnsw.ensures.well_formed

pub returns-in_ok-build_nnd-in-Nnd : goal.returns-in_ok-build_nnd-in-Nnd
returns-in_ok-build_nnd-in-Nnd g c =
    built_is _ c.args.points.now c.args.options.now Nnd c.in-Nnd.is (ap words_refusal (sym (c.words_for_nnd.ensures ∙ ap (λ n. nnd_words n c.args.options.now) c.count.ensures.value)) ∙ c.in_ok-check_words-in-Nnd.ensures.ok)
    (c.in_ok-build_nnd-in-Nnd.ensures.index ∙ same_lists c.args.points.now.vectors c.settings_for_nnd-settings.result c.args.options.now c.settings_for_nnd-settings.ensures) c.in_ok-build_nnd-in-Nnd.ensures.well_formed
