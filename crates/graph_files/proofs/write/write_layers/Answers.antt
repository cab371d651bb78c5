use Rattle.std.proofs.Common.{arith}
use Rattle.graph_rows.specs.Index.{layer_bytes}
use Rattle.graph_rows.specs.Layers.{Layered}
use Rattle.ann_shelf.proofs.Results.{passed_on}
use Rattle.graph_files.proofs.Grown.{added_none, added_failed, added_more}
use Rattle.graph_files.proofs.write.write_layers.Goals as goal

pub loop-layer-init : goal.loop-layer-init
loop-layer-init g c = record { so_far = added_none _ _ _ }

pub returns-in_err-write_layer-clause-only_writes : goal.returns-in_err-write_layer-clause-only_writes
returns-in_err-write_layer-clause-only_writes g c = added_failed c.loop-layer.invariant.so_far c.in_err-write_layer.ensures.only_writes (passed_on c.from_residual.result _ _ c.from_residual.ensures.1)

pub loop-layer-preserved : goal.loop-layer-preserved
loop-layer-preserved g c = record { so_far = added_more (λ (l : Layered). layer_bytes l.entries) c.args.layers.now c.loop-layer.layer-index c.layer-item.result c.layer-item.result (omega arith) c.layer-item.is c.loop-layer.invariant.so_far c.in_ok-write_layer.ensures.ok c.in_ok-write_layer.ensures.held c.in_ok-write_layer.ensures.only_writes }
