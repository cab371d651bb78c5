use Rattle.std.proofs.Common.{arith, refl, get_or}
use Rattle.graph_rows.specs.Index.{word}
use Rattle.ann_shelf.proofs.Results.{passed_on}
use Rattle.graph_files.proofs.Grown.{added_none, added_failed, added_more}
use Rattle.graph_files.proofs.write.write_words.Goals as goal

pub loop-n-init : goal.loop-n-init
loop-n-init g c = record { so_far = added_none _ _ _ }

pub returns-in_err-put-clause-only_writes : goal.returns-in_err-put-clause-only_writes
returns-in_err-put-clause-only_writes g c = added_failed c.loop-n.invariant.so_far c.in_err-put.ensures.only_writes (passed_on c.from_residual.result _ _ c.from_residual.ensures.1)

pub loop-n-preserved : goal.loop-n-preserved
loop-n-preserved g c = record { so_far = added_more word c.args.ns.now c.loop-n.n-index 0 (get_or c.args.ns.now c.loop-n.n-index 0) (omega arith) refl c.loop-n.invariant.so_far c.in_ok-put.ensures.ok c.in_ok-put.ensures.held c.in_ok-put.ensures.only_writes }
