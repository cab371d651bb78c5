use Rattle.std.proofs.Common.{◌≡◌, ◌∙◌, ap, sym, arith, length}
use Rattle.ann_defs.specs.Distance.{PointSet}
use Rattle.graph_rows.specs.View.{contents}
use Rattle.batch_search.specs.Answers.{answers_of}
use Rattle.annbuild_commands.specs.Querying.{all_answers}
use Rattle.annbuild_commands.specs.Trying.{answers_tried, answer_count, dist_total}
use Rattle.annbuild_commands.proofs.TrialFacts.{tried_count, tried_dim, tried_queries, answers_are_tried, answers_count, summary_is}
use Rattle.annbuild_commands.proofs.trial.summary.Goals as goal

pub new-batch-requires-clause-count : goal.new-batch-requires-clause-count
new-batch-requires-clause-count g c = tried_count (contents c.args.built.now.index) c.args.built.now.points c.args.options.now c.requires.index c.requires.points

pub new-batch-requires-clause-dim : goal.new-batch-requires-clause-dim
new-batch-requires-clause-dim g c = tried_dim c.in_ok-queries.queries.vectors c.args.built.now.points c.args.options.now c.in_ok-queries.ensures c.requires.points c.requires.options.some_query c.requires.options.some_point

pub summed_on-requires-clause-some : goal.summed_on-requires-clause-some
summed_on-requires-clause-some g c κs within =
    let many : length c.new-batch.result.queries.now.vectors ≡ c.args.options.now.queries = ap (λ (q : PointSet). length q.vectors) c.new-batch.ensures.queries ∙ tried_queries c.in_ok-queries.queries.vectors c.args.options.now c.in_ok-queries.ensures in
    omega (arith, many, c.requires.options.some_query)

pub summed_on-requires-clause-few : goal.summed_on-requires-clause-few
summed_on-requires-clause-few g c κs within =
    let many : length c.new-batch.result.queries.now.vectors ≡ c.args.options.now.queries = ap (λ (q : PointSet). length q.vectors) c.new-batch.ensures.queries ∙ tried_queries c.in_ok-queries.queries.vectors c.args.options.now c.in_ok-queries.ensures in
    omega (arith, many, c.requires.options.queries)

pub returns : goal.returns
returns g c =
    let o = c.args.options.now in
    let Q = c.in_ok-queries.queries in
    let same : all_answers c.new-batch.result ≡ answers_tried o =
    (λ i. answers_of (c.new-batch.ensures.points i).vectors (contents (c.new-batch.ensures.index i)) (c.new-batch.ensures.beam i) (c.new-batch.ensures.k i) (c.new-batch.ensures.queries i).vectors)
    ∙ answers_are_tried c.args.built.now.points (contents c.args.built.now.index) Q.vectors o c.requires.points c.requires.index c.in_ok-queries.ensures in
    c.answered_line.ensures
    ∙ summary_is (answers_tried o) c.count-2.result c.in_ok-sums.sums.answers c.in_ok-sums.sums.total
    (c.count-2.ensures.value ∙ tried_queries Q.vectors o c.in_ok-queries.ensures ∙ sym (answers_count o))
    (c.in_ok-sums.ensures.answers ∙ ap answer_count same) (c.in_ok-sums.ensures.total ∙ ap dist_total same)
