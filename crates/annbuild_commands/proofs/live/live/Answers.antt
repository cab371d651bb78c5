use Rattle.std.proofs.Common.{subst, Some}
use Rattle.command_options.specs.declared.role.Role.TheVariants.{Index}
use Rattle.command_shapes.specs.Ends.{Ends, fault_in}
use Rattle.command_shapes.specs.Writing.{stored_as}
use Rattle.command_shapes.proofs.Told.{fault_passed}
use Rattle.command_shapes.proofs.Ending.{after_reading}
use Rattle.index_build.specs.IndexOf.{index_of}
use Rattle.annbuild_commands.specs.IndexTexts.{file_of}
use Rattle.annbuild_commands.specs.Living.{living, may_run, live_pieces}
use Rattle.annbuild_commands.proofs.LiveFacts.{live_leads}
use Rattle.annbuild_commands.proofs.live.live.Goals as goal

pub returns-in_err-inputs : goal.returns-in_err-inputs
returns-in_err-inputs g c =
    let names = c.args.request.now.names in
    subst (Ends (living names.first.now names.second.now names.third.now c.args.request.now.settings) (g.F.Shelf.shown c.args.shelf.now) (g.F.Shelf.shown c.read_live.new.shelf) (g.O.Out.got c.args.out.now) (g.O.Out.got c.args.out.now))
    (fault_passed c.from_residual.result _ c.from_residual.ensures.1) (c.in_err-inputs.ensures.failed (g.O.Out.got c.args.out.now))

pub returns : goal.returns
returns g c =
    let names = c.args.request.now.names in
    let o = c.args.request.now.settings in
    let X = c.in_ok-inputs.inputs.points in
    let Q = c.in_ok-inputs.inputs.queries in
    let old = g.F.Shelf.shown c.args.shelf.now in
    after_reading (living names.first.now names.second.now names.third.now o) (Some (stored_as Index names.second.now (file_of (index_of X o)))) (may_run X.vectors Q.vectors o) (live_pieces X Q.vectors o)
    old (g.F.Shelf.shown c.read_live.new.shelf) (g.F.Shelf.shown c.told_live.new.shelf) (g.O.Out.got c.args.out.now) (g.O.Out.got c.told_live.new.out) (fault_in c.told_live.result)
    (live_leads old.held names.first.now names.second.now names.third.now X Q o c.in_ok-inputs.ensures.points c.in_ok-inputs.ensures.queries c.in_ok-inputs.ensures.read.accepted c.in_ok-inputs.ensures.fit)
    c.in_ok-inputs.ensures.read.only (λ rose role h. h) c.told_live.ensures
