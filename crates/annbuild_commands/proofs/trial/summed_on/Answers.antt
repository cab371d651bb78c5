use Rattle.std.proofs.Common.{◌≡◌, arith, length}
use Rattle.std.proofs.lemmas.List.{length-map}
use Rattle.graph_rows.specs.View.{contents}
use Rattle.batch_search.specs.Answers.{answer_of}
use Rattle.annbuild_commands.specs.Querying.{all_answers}
use Rattle.annbuild_commands.proofs.trial.summed_on.Goals as goal

pub sums_of-requires-clause-some : goal.sums_of-requires-clause-some
sums_of-requires-clause-some g c κs within =
    let b = c.args.batch.now in
    let many : length (all_answers b) ≡ length b.queries.now.vectors = length-map b.queries.now.vectors (answer_of b.points.now.vectors (contents b.index.now) b.beam b.k) in
    omega (arith, c.requires.some, many)
