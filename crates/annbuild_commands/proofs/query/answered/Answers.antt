use Rattle.std.proofs.Common.{◌≡◌, subst}
use Rattle.graph_rows.specs.View.{contents}
use Rattle.batch_search.specs.Answers.{answers_of}
use Rattle.command_shapes.specs.Ends.{fault_in}
use Rattle.command_shapes.specs.Writing.{Printed}
use Rattle.command_shapes.specs.AnswerLines.{lines_from}
use Rattle.annbuild_commands.specs.Querying.{all_answers}
use Rattle.annbuild_commands.proofs.query.answered.Goals as goal

pub returns : goal.returns
returns g c =
    let same : all_answers c.new-batch.result ≡ answers_of c.args.inputs.now.indexed.points.vectors (contents c.args.inputs.now.indexed.index) c.args.options.now.search c.args.options.now.k c.args.inputs.now.queries.vectors =
    λ i. answers_of (c.new-batch.ensures.points i).vectors (contents (c.new-batch.ensures.index i)) (c.new-batch.ensures.beam i) (c.new-batch.ensures.k i) (c.new-batch.ensures.queries i).vectors in
    subst (λ a. Printed (lines_from 0 a) (g.O.Out.got c.args.out.now) (g.O.Out.got c.answer_on.new.out) (fault_in c.answer_on.result)) same c.answer_on.ensures
