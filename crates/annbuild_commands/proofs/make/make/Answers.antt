use Rattle.std.proofs.Common.{◌∙◌, [], ◌∷◌, true, subst, Some}
use Rattle.bin_files.specs.Points.{text}
use Rattle.command_options.specs.declared.role.Role.TheVariants.{Base}
use Rattle.command_shapes.specs.Ends.{Ends, fault_in}
use Rattle.command_shapes.specs.Writing.{stored_as}
use Rattle.command_shapes.proofs.Told.{told_here, fault_passed}
use Rattle.command_shapes.proofs.ReadFacts.{none_read}
use Rattle.command_shapes.proofs.Ending.{after_reading}
use Rattle.annbuild_commands.specs.Making.{making}
use Rattle.annbuild_commands.proofs.MakeFacts.{make_fails, make_leads}
use Rattle.annbuild_commands.proofs.make.make.Goals as goal

pub returns-in_err-points : goal.returns-in_err-points
returns-in_err-points g c = subst (Ends (making c.args.request.now.names.first.now c.args.request.now.settings) (g.F.Shelf.shown c.args.shelf.now) (g.F.Shelf.shown c.args.shelf.now) (g.O.Out.got c.args.out.now) (g.O.Out.got c.args.out.now)) (fault_passed c.from_residual.result _ c.from_residual.ensures.1)
    (make_fails c.args.request.now.names.first.now c.args.request.now.settings (g.F.Shelf.shown c.args.shelf.now) (g.O.Out.got c.args.out.now) _ c.in_err-points.ensures.failed)

pub returns : goal.returns
returns g c =
    let old = g.F.Shelf.shown c.args.shelf.now in
    let line = c.as_slice.result.now in
    let first = c.args.request.now.names.first.now in
    let points = c.in_ok-points.points in
    after_reading (making c.args.request.now.names.first.now c.args.request.now.settings) (Some (stored_as Base first (text points))) (λ run. true) (λ run. line ∷ [])
    old old (g.F.Shelf.shown c.store_and_print.new.shelf) (g.O.Out.got c.args.out.now) (g.O.Out.got c.store_and_print.new.out) (fault_in c.store_and_print.result)
    (told_here old.held (λ files e. make_leads files first c.args.request.now.settings points line c.in_ok-points.ensures.fits c.in_ok-points.ensures.points (c.as_slice.ensures.value ∙ c.made_line-told.ensures)))
    (none_read old).only (λ rose role h. h) c.store_and_print.ensures
