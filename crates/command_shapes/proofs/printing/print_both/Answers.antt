use Rattle.std.proofs.Common.{[], ◌∷◌, subst, arith}
use Rattle.command_shapes.specs.Ends.{fault_in}
use Rattle.command_shapes.specs.Writing.{Printed}
use Rattle.command_shapes.proofs.Told.{fault_passed}
use Rattle.command_shapes.proofs.Pieces.{none_printed, failed_printing, then_pieces}
use Rattle.command_shapes.proofs.printing.print_both.Goals as goal

pub returns-in_err-print : goal.returns-in_err-print
returns-in_err-print g c = subst (Printed (c.args.first.now ∷ c.args.second.now ∷ []) (g.O.Out.got c.args.out.now) (g.O.Out.got c.print.new.out)) (fault_passed c.from_residual.result _ c.from_residual.ensures.1)
    (failed_printing [] (c.args.first.now ∷ []) (c.args.second.now ∷ []) (g.O.Out.got c.args.out.now) (g.O.Out.got c.args.out.now) (g.O.Out.got c.print.new.out) _ (omega arith)
    (none_printed (g.O.Out.got c.args.out.now)) c.in_err-print.ensures.printed)

pub returns : goal.returns
returns g c =
    then_pieces (c.args.first.now ∷ []) (c.args.second.now ∷ []) (g.O.Out.got c.args.out.now) (g.O.Out.got c.print.new.out) (g.O.Out.got c.print-2.new.out) (fault_in c.print-2.result) (omega arith)
    c.in_ok-print.ensures.printed c.print-2.ensures.printed
