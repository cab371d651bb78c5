use Rattle.std.proofs.Common.{◌≡◌, ◌∙◌, ap, ℕ, List}
use Rattle.ann_defs.specs.Distance.{PointSet}
use Rattle.vamana_build.specs.Building.{Building}
use Rattle.vamana_build.specs.VamanaIndex.{vamana_index}
use Rattle.vamana_build.specs.declared.settings.VamanaSettings.{VamanaSettings}
use Rattle.index_build.proofs.IndexFacts.{same_index}
use Rattle.index_build.proofs.vamana.vamana_index.Goals as goal

points_of_build : (a b : Building) → a ≡ b → a.points ≡ b.points
points_of_build a b e = ap (λ (x : Building). x.points) e

same_settings : (a b : Building) → a ≡ b → a.settings ≡ b.settings
same_settings a b e = ap (λ (x : Building). x.settings) e

vectors_of : (a b : PointSet) → a ≡ b → a.vectors ≡ b.vectors
vectors_of a b e = ap (λ (x : PointSet). x.vectors) e

same_parts : (X Y : List (List ℕ)) (s t : VamanaSettings) → X ≡ Y → s ≡ t → vamana_index X s ≡ vamana_index Y t
same_parts X Y s t e f = λ i. vamana_index (e i) (f i)

pub returns-clause-index : goal.returns-clause-index
returns-clause-index g c =
    c.into_index.ensures.contents
    ∙ same_parts _ _ _ _
    (points_of_build _ _ c.loop-batch.invariant.so_far ∙ points_of_build _ _ c.in_ok-builder.ensures ∙ vectors_of _ _ c.in_ok-plan.ensures.points)
    (same_settings _ _ c.loop-batch.invariant.so_far ∙ same_settings _ _ c.in_ok-builder.ensures ∙ c.in_ok-plan.ensures.settings)
    ∙ same_index c.args.points.now.vectors c.settings_for_vamana.result c.args.options.now c.settings_for_vamana.ensures.order c.settings_for_vamana.ensures.start c.settings_for_vamana.ensures.seed
    c.settings_for_vamana.ensures.degree c.settings_for_vamana.ensures.beam c.settings_for_vamana.ensures.num c.settings_for_vamana.ensures.den c.settings_for_vamana.ensures.cap c.settings_for_vamana.ensures.passes
