use Rattle.std.proofs.Common.{true, None, inl, refl, subst}
use Rattle.graph_rows.specs.View.{contents}
use Rattle.batch_search.specs.Answers.{answers_of}
use Rattle.command_shapes.specs.Ends.{Ends, fault_in}
use Rattle.command_shapes.proofs.Told.{told_here, fault_passed}
use Rattle.command_shapes.proofs.Ending.{after_reading}
use Rattle.command_shapes.proofs.WrittenFacts.{then_printed}
use Rattle.command_shapes.specs.AnswerLines.{lines_from}
use Rattle.annbuild_commands.specs.Querying.{querying}
use Rattle.annbuild_commands.proofs.QueryFacts.{query_leads}
use Rattle.annbuild_commands.proofs.query.query.Goals as goal

pub returns-in_err-inputs : goal.returns-in_err-inputs
returns-in_err-inputs g c = subst (Ends (querying c.args.request.now.names.first.now c.args.request.now.names.second.now c.args.request.now.names.third.now c.args.request.now.settings) (g.F.Shelf.shown c.args.shelf.now) (g.F.Shelf.shown c.read_inputs.new.shelf) (g.O.Out.got c.args.out.now) (g.O.Out.got c.args.out.now)) (fault_passed c.from_residual.result _ c.from_residual.ensures.1) (c.in_err-inputs.ensures.failed (g.O.Out.got c.args.out.now))

pub returns : goal.returns
returns g c =
    after_reading (querying c.args.request.now.names.first.now c.args.request.now.names.second.now c.args.request.now.names.third.now c.args.request.now.settings) None (λ run. true) (λ run. (lines_from 0 (answers_of c.in_ok-inputs.inputs.indexed.points.vectors (contents c.in_ok-inputs.inputs.indexed.index) c.args.request.now.settings.search c.args.request.now.settings.k c.in_ok-inputs.inputs.queries.vectors)))
    (g.F.Shelf.shown c.args.shelf.now) (g.F.Shelf.shown c.read_inputs.new.shelf) (g.F.Shelf.shown c.read_inputs.new.shelf) (g.O.Out.got c.args.out.now) (g.O.Out.got c.answered.new.out) (fault_in c.answered.result)
    (query_leads (g.F.Shelf.shown c.args.shelf.now).held c.args.request.now.names.first.now c.args.request.now.names.second.now c.args.request.now.names.third.now c.in_ok-inputs.inputs.indexed.points c.in_ok-inputs.inputs.queries (contents c.in_ok-inputs.inputs.indexed.index)
    c.args.request.now.settings c.in_ok-inputs.ensures.indexed.points c.in_ok-inputs.ensures.indexed.index c.in_ok-inputs.ensures.queries c.in_ok-inputs.ensures.read.accepted c.in_ok-inputs.ensures.fit)
    c.in_ok-inputs.ensures.read.only (λ rose role h. h)
    (then_printed None (lines_from 0 (answers_of c.in_ok-inputs.inputs.indexed.points.vectors (contents c.in_ok-inputs.inputs.indexed.index) c.args.request.now.settings.search c.args.request.now.settings.k c.in_ok-inputs.inputs.queries.vectors)) (g.F.Shelf.shown c.read_inputs.new.shelf) (g.F.Shelf.shown c.read_inputs.new.shelf) (g.O.Out.got c.args.out.now) (g.O.Out.got c.answered.new.out) (fault_in c.answered.result) (told_here (g.F.Shelf.shown c.read_inputs.new.shelf).held (λ files e. e)) (λ files e. inl refl) c.answered.ensures)
