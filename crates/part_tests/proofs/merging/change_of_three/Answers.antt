use Rattle.std.proofs.Common.{◌≡◌, sym, subst, ℕ, [], ◌∷◌, length}
use Rattle.graph_rows.specs.Layers.{Layered, layer_row}
use Rattle.graph_rows.specs.Index.{layer_ids}
use Rattle.ann_defs.specs.Graph.{has}
use Rattle.batch_insert.specs.Batch.{IsBatch}
use Rattle.part_tests.proofs.LayerBatch.{four, three, three_in_four}
use Rattle.part_tests.proofs.merging.change_of_three.Goals as goal

-- for these layers and so many points
batch_in : (n : ℕ) (old fresh : Layered) → n ≡ 5 → old ≡ four → fresh ≡ three → IsBatch n 2 (λ u. has (layer_ids old.entries) u) (layer_row old) (λ u. has (layer_ids fresh.entries) u) (layer_row fresh) (1 ∷ 2 ∷ 4 ∷ [])
batch_in n old fresh e f h =
    subst (λ (m : ℕ). IsBatch m 2 (λ u. has (layer_ids old.entries) u) (layer_row old) (λ u. has (layer_ids fresh.entries) u) (layer_row fresh) (1 ∷ 2 ∷ 4 ∷ [])) (sym e)
    (subst (λ (l : Layered). IsBatch 5 2 (λ u. has (layer_ids l.entries) u) (layer_row l) (λ u. has (layer_ids fresh.entries) u) (layer_row fresh) (1 ∷ 2 ∷ 4 ∷ [])) (sym f)
    (subst (λ (l : Layered). IsBatch 5 2 (λ u. has (layer_ids four.entries) u) (layer_row four) (λ u. has (layer_ids l.entries) u) (layer_row l) (1 ∷ 2 ∷ 4 ∷ [])) (sym h) three_in_four))

pub changed_rows-requires-clause-batch : goal.changed_rows-requires-clause-batch
changed_rows-requires-clause-batch g c κs within = batch_in (length c.args.points.now.vectors) c.args.old.now c.args.fresh.now c.requires.points c.requires.old c.requires.fresh
