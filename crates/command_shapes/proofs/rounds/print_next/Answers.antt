use Rattle.std.proofs.Common.{ap, subst, arith, length, None}
use Rattle.batch_search.specs.Answers.{round_of}
use Rattle.command_shapes.specs.Ends.{fault_in}
use Rattle.command_shapes.specs.Writing.{Printed}
use Rattle.command_shapes.specs.AnswerLines.{lines_from}
use Rattle.command_shapes.proofs.Told.{fault_passed}
use Rattle.command_shapes.proofs.Pieces.{memory_passed}
use Rattle.command_shapes.proofs.LineLists.{round_length}
use Rattle.command_shapes.proofs.rounds.print_next.Goals as goal

pub returns-in_err-answers-clause-printed : goal.returns-in_err-answers-clause-printed
returns-in_err-answers-clause-printed g c = memory_passed c.from_residual.result (lines_from c.args.from (round_of (g.A.Answering.answers c.args.batch.now) c.args.from)) (g.O.Out.got c.args.out.now) c.from_residual.ensures.1

pub print_answers-requires-clause-numbers : goal.print_answers-requires-clause-numbers
print_answers-requires-clause-numbers g c =
    let is = ap length c.in_ok-answers.ensures.answers in
    let short = round_length (g.A.Answering.answers c.args.batch.now) c.args.from (omega (arith, c.requires.from)) in
    omega (arith, is, short, c.count.ensures.value, c.count.ensures.small)

pub returns-in_err-print_answers-clause-printed : goal.returns-in_err-print_answers-clause-printed
returns-in_err-print_answers-clause-printed g c = subst (λ a. Printed (lines_from c.args.from a) (g.O.Out.got c.args.out.now) (g.O.Out.got c.print_answers.new.out) (fault_in c.from_residual-in_err-print_answers.result)) c.in_ok-answers.ensures.answers
    (subst (Printed (lines_from c.args.from c.in_ok-answers.answers) (g.O.Out.got c.args.out.now) (g.O.Out.got c.print_answers.new.out)) (fault_passed c.from_residual-in_err-print_answers.result _ c.from_residual-in_err-print_answers.ensures.1) c.in_err-print_answers.ensures.printed)

pub returns-clause-printed : goal.returns-clause-printed
returns-clause-printed g c = subst (λ a. Printed (lines_from c.args.from a) (g.O.Out.got c.args.out.now) (g.O.Out.got c.print_answers.new.out) None) c.in_ok-answers.ensures.answers c.in_ok-print_answers.ensures.printed
