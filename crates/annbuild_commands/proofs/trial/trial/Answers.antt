use Rattle.std.proofs.Common.{[], ◌∷◌, ◌∙◌, true, None, inl, inr, refl, subst}
use Rattle.graph_rows.specs.View.{contents}
use Rattle.command_shapes.specs.Ends.{Ends, fault_in}
use Rattle.command_shapes.proofs.Told.{told_here, fault_passed}
use Rattle.command_shapes.proofs.ReadFacts.{none_read}
use Rattle.command_shapes.proofs.Ending.{after_reading}
use Rattle.command_shapes.proofs.WrittenFacts.{then_printed}
use Rattle.annbuild_commands.specs.Trying.{trying}
use Rattle.annbuild_commands.proofs.TrialFacts.{trial_fault, trial_leads}
use Rattle.annbuild_commands.proofs.trial.trial.Goals as goal

pub returns-in_err-built : goal.returns-in_err-built
returns-in_err-built g c shown = subst (Ends (trying c.args.options.now) shown shown (g.O.Out.got c.args.out.now) (g.O.Out.got c.args.out.now)) (fault_passed c.from_residual.result _ c.from_residual.ensures.1)
    (trial_fault c.args.options.now _ c.in_err-built.ensures.failed shown (g.O.Out.got c.args.out.now))

pub returns-in_err-second : goal.returns-in_err-second
returns-in_err-second g c shown = subst (Ends (trying c.args.options.now) shown shown (g.O.Out.got c.args.out.now) (g.O.Out.got c.args.out.now)) (fault_passed c.from_residual-in_err-second.result _ c.from_residual-in_err-second.ensures.1)
    (trial_fault c.args.options.now _ (inr refl) shown (g.O.Out.got c.args.out.now))

pub returns : goal.returns
returns g c shown =
    let had = g.O.Out.got c.args.out.now in
    let got = g.O.Out.got c.print_both.new.out in
    let first = c.as_slice.result.now in
    let second = c.as_slice-2.result.now in
    after_reading (trying c.args.options.now) None (λ run. true) (λ run. first ∷ second ∷ []) shown shown shown had got (fault_in c.print_both.result)
    (told_here shown.held (λ files e. trial_leads files c.args.options.now (contents c.in_ok-built.built.index) first second c.in_ok-built.ensures.fits c.in_ok-built.ensures.index
    (c.as_slice.ensures.value ∙ c.line_of_built-first.ensures) (c.as_slice-2.ensures.value ∙ c.in_ok-second.ensures)))
    (none_read shown).only (λ rose role h. h)
    (then_printed None (first ∷ second ∷ []) shown shown had got (fault_in c.print_both.result) (told_here shown.held (λ files e. e)) (λ files e. inl refl) c.print_both.ensures)
