use Rattle.std.proofs.Common.{rules}
use Rattle.ann_shelf.proofs.Appended.{appended_none, appended_failed, appended_on}
use Rattle.ann_shelf.proofs.Grow.{rest_of}
use Rattle.ann_shelf.proofs.Results.{passed_on}
use Rattle.ann_shelf.proofs.whole.append_all.Goals as goal

pub loop-done-init : goal.loop-done-init
loop-done-init g c = record { within = search rules; so_far = appended_none _ _ }

pub returns-in_err-done-clause-only_writes : goal.returns-in_err-done-clause-only_writes
returns-in_err-done-clause-only_writes g c = appended_failed c.loop-done.invariant.so_far c.in_err-done.ensures.only_writes (passed_on c.from_residual.result _ _ c.from_residual.ensures.1)

pub loop-done-preserved : goal.loop-done-preserved
loop-done-preserved g c = record {
  within = search rules;
  so_far = appended_on c.in_ok-done.ensures.held c.in_ok-done.ensures.only_writes c.args.bytes.now _ c.loop-done.done c.in_ok-done.field-0 (rest_of c.loop-done.done c.args.bytes.now) c.loop-done.invariant.so_far c.in_ok-done.ensures.ok;
}
