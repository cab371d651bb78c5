-- That an index is well formed is a fact without further content, so a ghost field can keep it.
use Rattle.std.proofs.Common.{ℕ, List, [], ◌∷◌, drop, Bool, nat_lt, Option, Some, None}
use Rattle.std.proofs.Props.{props}
use Rattle.ann_defs.specs.Graph.{has}
use Rattle.graph_rows.specs.Index.{Contents, layer_ids}
use Rattle.graph_rows.specs.declared.stamp.Stamp.{Stamp}
use Rattle.graph_rows.specs.Stamps.{IsStamped}
use Rattle.graph_rows.specs.WellFormed.{IsFurtherLayer, AreFurtherLayers, IsWellFormed}

further_prop : (start degree : ℕ) (below : ℕ → Bool) (layers : List (List (ℕ × List ℕ))) → IsProp (AreFurtherLayers start degree below layers)
further_prop start degree below [] = hlevel props
further_prop start degree below (layer ∷ layers) =
    let here : IsProp (IsFurtherLayer start degree below layer) = hlevel props in
    let above = further_prop start degree (λ v. has (layer_ids layer) v) layers in
    hlevel (here, above)

stamped_prop : (kind : ℕ) (stamp : Option Stamp) → IsProp (IsStamped kind stamp)
stamped_prop kind None = hlevel props
stamped_prop kind (Some s) = hlevel props

pub well_formed_prop : (i : Contents) → IsProp (IsWellFormed i)
well_formed_prop i =
    let stamp = stamped_prop i.kind i.stamp in
    let above = further_prop i.start i.degree (λ v. nat_lt v i.count) (drop 1 i.layers) in
    hlevel (props, above, stamp)
