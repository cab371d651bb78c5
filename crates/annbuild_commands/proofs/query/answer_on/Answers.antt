use Rattle.command_shapes.proofs.Pieces.{memory_passed}
use Rattle.command_shapes.specs.AnswerLines.{lines_from}
use Rattle.annbuild_commands.specs.Querying.{all_answers}
use Rattle.annbuild_commands.proofs.query.answer_on.Goals as goal

pub returns-in_err-posts : goal.returns-in_err-posts
returns-in_err-posts g c = memory_passed c.from_residual.result (lines_from 0 (all_answers c.args.batch.now)) (g.O.Out.got c.args.out.now) c.from_residual.ensures.1
