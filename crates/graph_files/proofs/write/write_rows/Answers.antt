use Rattle.std.proofs.Common.{arith, []}
use Rattle.graph_rows.specs.Index.{row_bytes}
use Rattle.ann_shelf.proofs.Results.{passed_on}
use Rattle.graph_files.proofs.Grown.{added_none, added_failed, added_more}
use Rattle.graph_files.proofs.write.write_rows.Goals as goal

pub loop-i-init : goal.loop-i-init
loop-i-init g c = record { so_far = added_none _ _ _ }

pub returns-in_err-put_row-clause-only_writes : goal.returns-in_err-put_row-clause-only_writes
returns-in_err-put_row-clause-only_writes g c = added_failed c.loop-i.invariant.so_far c.in_err-put_row.ensures.only_writes (passed_on c.from_residual.result _ _ c.from_residual.ensures.1)

pub loop-i-preserved : goal.loop-i-preserved
loop-i-preserved g c = record { so_far = added_more row_bytes c.args.graph.now.rows c.loop-i.i [] c.at.result.now (omega arith) c.at.ensures.row c.loop-i.invariant.so_far c.in_ok-put_row.ensures.ok c.in_ok-put_row.ensures.held c.in_ok-put_row.ensures.only_writes }
