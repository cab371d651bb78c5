use Rattle.std.proofs.Common.{◌≤◌, ◌++◌, ℕ, List, [], ◌∷◌, length, subst, arith}
use Rattle.ann_defs.specs.declared.near.Near.{Near}
use Rattle.annbuild_lines.specs.declared.batch_line.Moment.{Moment}
use Rattle.annbuild_lines.specs.declared.batch_line.Moment.TheVariants.{During, After}
use Rattle.command_shapes.specs.AnswerLines.{numbered_lines}
use Rattle.command_shapes.specs.Ends.{fault_in}
use Rattle.command_shapes.specs.Writing.{Printed}
use Rattle.command_shapes.proofs.LineLists.{lines_length}
use Rattle.command_shapes.proofs.Told.{fault_passed}
use Rattle.command_shapes.proofs.Pieces.{none_printed, both_printed, failed_printing, then_pieces}
use Rattle.annbuild_commands.specs.Living.{batch_line}
use Rattle.annbuild_commands.proofs.batch_lines.print_session.Goals as goal

some_lines : (moment : Moment) (answers : List (ℕ × List Near)) → 1 ≤ length answers → 1 ≤ length (numbered_lines (batch_line moment) 0 answers)
some_lines moment answers some = let many = lines_length (batch_line moment) (0, []) 0 answers in omega (arith, some, many)

pub returns-in_err-print-clause-printed : goal.returns-in_err-print-clause-printed
returns-in_err-print-clause-printed g c =
    let live = numbered_lines (batch_line During) 0 c.args.session.now.live in
    let last = numbered_lines (batch_line After) 0 c.args.session.now.last in
    let had = g.O.Out.got c.args.out.now in
    subst (Printed (c.args.first.now ∷ (live ++ last)) had (g.O.Out.got c.print.new.out)) (fault_passed c.from_residual.result _ c.from_residual.ensures.1)
    (failed_printing [] (c.args.first.now ∷ []) (live ++ last) had had (g.O.Out.got c.print.new.out) _ (omega arith) (none_printed had) c.in_err-print.ensures.printed)

pub returns-in_err-print_batched-clause-printed : goal.returns-in_err-print_batched-clause-printed
returns-in_err-print_batched-clause-printed g c =
    let live = numbered_lines (batch_line During) 0 c.args.session.now.live in
    let last = numbered_lines (batch_line After) 0 c.args.session.now.last in
    let had = g.O.Out.got c.args.out.now in
    let got = g.O.Out.got c.print_batched.new.out in
    subst (Printed (c.args.first.now ∷ (live ++ last)) had got) (fault_passed c.from_residual-in_err-print_batched.result _ c.from_residual-in_err-print_batched.ensures.1)
    (failed_printing (c.args.first.now ∷ []) live last had (g.O.Out.got c.print.new.out) got _ (some_lines During c.args.session.now.live c.requires.live.0) c.in_ok-print.ensures.printed c.in_err-print_batched.ensures.printed)

pub returns-clause-printed : goal.returns-clause-printed
returns-clause-printed g c =
    let live = numbered_lines (batch_line During) 0 c.args.session.now.live in
    let last = numbered_lines (batch_line After) 0 c.args.session.now.last in
    let had = g.O.Out.got c.args.out.now in
    let then = g.O.Out.got c.print.new.out in
    let mid = g.O.Out.got c.print_batched.new.out in
    let got = g.O.Out.got c.print_batched-2.new.out in
    then_pieces (c.args.first.now ∷ live) last had mid got (fault_in c.print_batched-2.result) (some_lines After c.args.session.now.last c.requires.last.0)
    (both_printed (c.args.first.now ∷ []) live had then mid c.in_ok-print.ensures.printed c.in_ok-print_batched.ensures.printed) c.print_batched-2.ensures.printed
