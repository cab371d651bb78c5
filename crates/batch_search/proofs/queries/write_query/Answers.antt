use Rattle.std.proofs.Common.{◌≡◌, ◌∙◌, take, length, ap, arith}
use Rattle.std.specs.Prelude.{min}
use Rattle.std.proofs.lemmas.List.{take_min}
use Rattle.ann_defs.specs.Distance.{point}
use Rattle.graph_rows.specs.View.{contents}
use Rattle.layered_search.specs.Descent.{descent_in}
use Rattle.batch_search.specs.Answers.{answer_of}
use Rattle.batch_search.specs.Blocks.{block_of}
use Rattle.batch_search.proofs.queries.write_query.Goals as goal

pub returns-clause-out : goal.returns-clause-out
returns-clause-out c =
    let b = c.args.batch.now in
    let points = b.points.now.vectors in
    let i = contents b.index.now in
    let nears = c.found-nears.result.now in
    let len = c.min-len.result in
    let found = c.found-nears.ensures ∙ c.descend.ensures.descent ∙ ap (λ q. descent_in points i q b.beam) c.at-asked.ensures.value in
    let cut : len ≡ min b.k (length nears) = omega (arith, c.min-len.ensures) in
    let answer : take len nears ≡ answer_of points i b.beam b.k (point b.queries.now.vectors c.args.query) = ap (λ n. take n nears) cut ∙ take_min b.k nears ∙ ap (take b.k) found in
    c.write_answer.ensures ∙ (λ j. block_of (c.requires.out j) (answer j))
