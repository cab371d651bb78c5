use Rattle.std.proofs.Common.{◌-◌, rules, sym, subst, ap, ◌∙◌, ◌+◌, ◌≡◌, take, drop, arith}
use Rattle.ann_defs.specs.declared.kinds.Element.TheVariants.{I8}
use Rattle.ann_shelf.proofs.Appended.{IsAppended, appended_none, appended_failed, appended_more}
use Rattle.ann_shelf.proofs.Results.{passed_on}
use Rattle.bin_files.specs.Points.{file_bytes}
use Rattle.bin_files.proofs.Turned.{more_turned}
use Rattle.bin_files.proofs.write.append_signed.Goals as goal

pub loop-done-init : goal.loop-done-init
loop-done-init g c = record { within = search rules; so_far = appended_none _ _ }

pub returns-in_err-append_all-clause-only_writes : goal.returns-in_err-append_all-clause-only_writes
returns-in_err-append_all-clause-only_writes g c = appended_failed c.loop-done.invariant.so_far c.in_err-append_all.ensures.only_writes (passed_on c.from_residual.result _ _ c.from_residual.ensures.1)

pub loop-done-preserved : goal.loop-done-preserved
loop-done-preserved g c = record {
  within = search rules;
  so_far = subst (λ t. IsAppended (g.F.Shelf.shown c.args.shelf.now) (g.F.Shelf.shown c.append_all.new.shelf) c.args.name.now t) (sym (more_turned c.loop-done.done c.min-len.result c.args.stored.now _
      (c.turn.ensures.there ∙ ap (file_bytes I8) (c.copy_from_slice.ensures.after ∙ (let len : c.loop-done.done + c.min-len.result - c.loop-done.done ≡ c.min-len.result = omega arith in ap (λ k. take k (drop c.loop-done.done c.args.stored.now)) len)))))
      (appended_more c.in_ok-append_all.ensures.held c.in_ok-append_all.ensures.only_writes _ _ c.loop-done.invariant.so_far c.in_ok-append_all.ensures.ok);
}
