use Rattle.std.proofs.Common.{rules, ap, Err}
use Rattle.ann_shelf.proofs.Grow.{gets_on, gets_some, rest_of}
use Rattle.ann_shelf.proofs.Only.{only_written_then}
use Rattle.ann_shelf.proofs.Results.{on_err}
use Rattle.ann_shelf.proofs.whole.write_all.Goals as goal

pub loop-written-preserved : goal.loop-written-preserved
loop-written-preserved g c = record {
  within = search rules;
  text = gets_on (g.O.Out.got c.args.out.now).written (g.O.Out.got c.loop-written.out).written (g.O.Out.got c.write.new.self).written c.args.bytes.now _ c.loop-written.written c.in_ok-written.field-0
      (rest_of c.loop-written.written c.args.bytes.now) c.loop-written.invariant.text c.in_ok-written.ensures.ok;
  only = only_written_then _ _ _ c.loop-written.invariant.only c.in_ok-written.ensures.only_written (λ never. absurd never) (λ never. absurd never);
}

pub returns-in_err-written-clause-err : goal.returns-in_err-written-clause-err
returns-in_err-written-clause-err g c = on_err c.from_residual.result
    (gets_some (g.O.Out.got c.args.out.now).written (g.O.Out.got c.loop-written.out).written (g.O.Out.got c.write.new.self).written c.args.bytes.now _ c.loop-written.written c.in_err-written.field-0.0
    (rest_of c.loop-written.written c.args.bytes.now) c.loop-written.invariant.text (λ e. c.in_err-written.ensures.failed (ap Err e)) (λ e. c.in_err-written.ensures.no_memory (ap Err e)))
