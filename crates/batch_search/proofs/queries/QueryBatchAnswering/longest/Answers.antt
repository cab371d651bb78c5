use Rattle.graph_rows.specs.View.{contents}
use Rattle.batch_search.proofs.Short.{answers_short}
use Rattle.batch_search.proofs.queries.QueryBatchAnswering.longest.Goals as goal

pub returns-clause-short : goal.returns-clause-short
returns-clause-short c = let b = c.args.self.now in answers_short b.points.now.vectors (contents b.index.now) b.beam b.k b.queries.now.vectors
