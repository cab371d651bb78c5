use Rattle.std.proofs.Common.{◌∙◌, inr, refl, subst, Some}
use Rattle.graph_rows.specs.Index.{text_of}
use Rattle.graph_rows.specs.View.{contents}
use Rattle.live_session.specs.LiveAnswers.{batches_in}
use Rattle.command_options.specs.declared.role.Role.TheVariants.{Index}
use Rattle.command_shapes.specs.Ends.{Ends, fault_in}
use Rattle.command_shapes.specs.Writing.{Printed, writing_runs, stored_as}
use Rattle.command_shapes.proofs.Told.{fault_passed, no_memory_in}
use Rattle.command_shapes.proofs.Ending.{fails_memory}
use Rattle.command_shapes.proofs.WrittenFacts.{then_run_printed}
use Rattle.annbuild_commands.specs.Living.{telling, may_run, live_pieces}
use Rattle.annbuild_commands.proofs.LiveFacts.{session_text, session_pieces}
use Rattle.annbuild_commands.proofs.live.told_live.Goals as goal

pub returns-in_err-session : goal.returns-in_err-session
returns-in_err-session g c =
    let doing = telling c.args.inputs.now.points c.args.inputs.now.queries.vectors c.args.name.now c.args.options.now in
    let old = g.F.Shelf.shown c.args.shelf.now in
    let had = g.O.Out.got c.args.out.now in
    subst (Ends doing old old had had) (fault_passed c.from_residual.result _ c.from_residual.ensures.1) (fails_memory doing old old had refl)

pub returns-in_err-store : goal.returns-in_err-store
returns-in_err-store g c =
    let X = c.args.inputs.now.points in
    let Q = c.args.inputs.now.queries.vectors in
    let o = c.args.options.now in
    let old = g.F.Shelf.shown c.args.shelf.now in
    let new = g.F.Shelf.shown c.store.new.shelf in
    let had = g.O.Out.got c.args.out.now in
    let text = text_of (contents c.in_ok-session.field-0.session.index) in
    subst (λ t. Ends (writing_runs (Some (stored_as Index c.args.name.now t)) (may_run X.vectors Q o) (live_pieces X Q o)) old new had had (fault_in c.from_residual-in_err-store.result)) (session_text X Q o c.in_ok-session.field-0.session c.in_ok-session.ensures.session)
    (subst (Ends (writing_runs (Some (stored_as Index c.args.name.now text)) (may_run X.vectors Q o) (live_pieces X Q o)) old new had had) (fault_passed c.from_residual-in_err-store.result _ c.from_residual-in_err-store.ensures.1)
    (c.in_err-store.ensures.failed had (may_run X.vectors Q o) (live_pieces X Q o)))

pub returns : goal.returns
returns g c =
    let X = c.args.inputs.now.points in
    let Q = c.args.inputs.now.queries.vectors in
    let o = c.args.options.now in
    let x = c.in_ok-session.field-0.session in
    let h = c.in_ok-session.ensures.session in
    let old = g.F.Shelf.shown c.args.shelf.now in
    let new = g.F.Shelf.shown c.store.new.shelf in
    let had = g.O.Out.got c.args.out.now in
    let got = g.O.Out.got c.print_session.new.out in
    subst (λ text. Ends (writing_runs (Some (stored_as Index c.args.name.now text)) (may_run X.vectors Q o) (live_pieces X Q o)) old new had got (fault_in c.print_session.result)) (session_text X Q o x h)
    (then_run_printed (Some (stored_as Index c.args.name.now (text_of (contents x.index)))) (may_run X.vectors Q o) (live_pieces X Q o) (batches_in x.live) h.lawful old new had got (fault_in c.print_session.result)
    c.in_ok-store.ensures.stored (λ files e. inr (c.print_session.ensures.want (no_memory_in c.print_session.result e)))
    (subst (λ ps. Printed ps had got (fault_in c.print_session.result)) (session_pieces X Q o x c.as_slice.result.now h (c.as_slice.ensures.value ∙ c.line_of_built-told.ensures)) c.print_session.ensures.printed))
