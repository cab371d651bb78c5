use Rattle.std.proofs.Common.{◌∙◌}
use Rattle.batch_insert.proofs.Merges.{drop_on}
use Rattle.batch_insert.proofs.merge.join_row.Goals as goal

pub returns-clause-rest : goal.returns-clause-rest
returns-clause-rest c = c.join_sources.ensures.rest ∙ drop_on _ _ _ _ c.join_sources.ensures.least c.copy_row-from.ensures.rest
