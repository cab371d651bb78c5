use Rattle.command_shapes.specs.AnswerLines.{lines_from}
use Rattle.command_shapes.proofs.Pieces.{memory_passed}
use Rattle.command_shapes.proofs.rounds.answer_and_print.Goals as goal

pub returns-in_err-rooms : goal.returns-in_err-rooms
returns-in_err-rooms g c = memory_passed c.from_residual.result (lines_from 0 (g.A.Answering.answers c.args.batch.now)) (g.O.Out.got c.args.out.now) c.from_residual.ensures.1
