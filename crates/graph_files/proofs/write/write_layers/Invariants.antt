use Rattle.std.proofs.Common.{take}
use Rattle.std.specs.List.{flat_map}
use Rattle.graph_rows.specs.Index.{layer_bytes}
use Rattle.graph_rows.specs.Layers.{Layered}
use Rattle.graph_files.specs.Writing.{pending}
use Rattle.graph_files.proofs.Grown.{HasAdded}
use Rattle.graph_files.proofs.write.write_layers.Given as goal

abbrev pub invariant-loop-layer : goal.invariant-loop-layer
invariant-loop-layer g l = record { so_far : HasAdded (g.F.Shelf.shown l.fn.shelf) (g.F.Shelf.shown l.shelf) l.name (pending l.fn.pieces) (pending l.pieces) (flat_map (λ (x : Layered). layer_bytes x.entries) (take l.layer-index l.layers)) }
