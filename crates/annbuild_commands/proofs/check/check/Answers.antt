use Rattle.std.proofs.Common.{[], ◌∷◌, ◌∙◌, true, None, inl, refl, subst}
use Rattle.graph_rows.specs.View.{contents}
use Rattle.command_shapes.specs.Ends.{Ends, fault_in}
use Rattle.command_shapes.proofs.Told.{told_here, fault_passed}
use Rattle.command_shapes.proofs.Ending.{after_reading}
use Rattle.command_shapes.proofs.WrittenFacts.{then_printed}
use Rattle.annbuild_commands.specs.Checking.{checking}
use Rattle.annbuild_commands.proofs.CheckFacts.{check_leads}
use Rattle.annbuild_commands.proofs.check.check.Goals as goal

pub returns-in_err-both : goal.returns-in_err-both
returns-in_err-both g c = subst (Ends (checking c.args.request.now.names.first.now c.args.request.now.names.second.now c.args.request.now.settings) (g.F.Shelf.shown c.args.shelf.now) (g.F.Shelf.shown c.read_fitting.new.shelf) (g.O.Out.got c.args.out.now) (g.O.Out.got c.args.out.now)) (fault_passed c.from_residual.result _ c.from_residual.ensures.1) (c.in_err-both.ensures.failed (g.O.Out.got c.args.out.now))

pub returns : goal.returns
returns g c =
    let old = g.F.Shelf.shown c.args.shelf.now in
    let new = g.F.Shelf.shown c.read_fitting.new.shelf in
    let had = g.O.Out.got c.args.out.now in
    let got = g.O.Out.got c.print.new.out in
    let line = c.as_slice.result.now in
    after_reading (checking c.args.request.now.names.first.now c.args.request.now.names.second.now c.args.request.now.settings) None (λ run. true) (λ run. line ∷ []) old new new had got (fault_in c.print.result)
    (check_leads old.held c.args.request.now.names.first.now c.args.request.now.names.second.now c.args.request.now.settings c.in_ok-both.both.points (contents c.in_ok-both.both.index) line
    c.in_ok-both.ensures.indexed.points c.in_ok-both.ensures.indexed.index c.in_ok-both.ensures.read.accepted c.in_ok-both.ensures.fit (c.as_slice.ensures.value ∙ c.line_of_checked-told.ensures))
    c.in_ok-both.ensures.read.only (λ rose role h. h)
    (then_printed None (line ∷ []) new new had got (fault_in c.print.result) (told_here new.held (λ files e. e)) (λ files e. inl refl) c.print.ensures.printed)
