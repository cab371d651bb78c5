use Rattle.std.proofs.Common.{◌∙◌, [], ◌∷◌, true, subst, Some}
use Rattle.bin_files.proofs.Pieces.{told_then}
use Rattle.graph_rows.specs.View.{contents}
use Rattle.graph_rows.specs.Index.{text_of}
use Rattle.command_options.specs.declared.role.Role.TheVariants.{Index}
use Rattle.command_shapes.specs.Ends.{Ends, fault_in}
use Rattle.command_shapes.specs.Writing.{stored_as}
use Rattle.command_shapes.proofs.Told.{fault_passed}
use Rattle.command_shapes.proofs.Ending.{after_reading}
use Rattle.annbuild_commands.specs.Building.{building}
use Rattle.annbuild_commands.proofs.IndexFacts.{file_is}
use Rattle.annbuild_commands.proofs.BuildFacts.{build_leads}
use Rattle.annbuild_commands.proofs.build.build.Goals as goal

pub returns-in_err-index : goal.returns-in_err-index
returns-in_err-index g c = subst (Ends (building c.args.request.now.names.first.now c.args.request.now.names.second.now c.args.request.now.settings) (g.F.Shelf.shown c.args.shelf.now) (g.F.Shelf.shown c.prepared.new.shelf) (g.O.Out.got c.args.out.now) (g.O.Out.got c.args.out.now)) (fault_passed c.from_residual.result _ c.from_residual.ensures.1) (c.in_err-index.ensures.failed (g.O.Out.got c.args.out.now))

pub returns : goal.returns
returns g c =
    let i = contents c.in_ok-index.index in
    after_reading (building c.args.request.now.names.first.now c.args.request.now.names.second.now c.args.request.now.settings) (Some (stored_as Index c.args.request.now.names.second.now (text_of i))) (λ run. true) (λ run. c.as_slice.result.now ∷ [])
    (g.F.Shelf.shown c.args.shelf.now) (g.F.Shelf.shown c.prepared.new.shelf) (g.F.Shelf.shown c.store_and_print.new.shelf) (g.O.Out.got c.args.out.now) (g.O.Out.got c.store_and_print.new.out) (fault_in c.store_and_print.result)
    (told_then (g.F.Shelf.shown c.args.shelf.now).held c.in_ok-index.ensures.index (λ files is.
    build_leads files c.args.request.now.names.first.now c.args.request.now.names.second.now c.args.request.now.settings i (text_of i) c.as_slice.result.now is (file_is i) (c.as_slice.ensures.value ∙ c.line_of_built-told.ensures)))
    c.in_ok-index.ensures.read.only (λ rose role h. h) c.store_and_print.ensures
