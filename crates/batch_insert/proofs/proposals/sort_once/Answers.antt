use Rattle.std.proofs.Common.{◌∙◌}
use Rattle.std.proofs.lemmas.List.Filters.{dedup_is}
use Rattle.batch_insert.specs.Proposing.{pair_cmp}
use Rattle.batch_insert.proofs.Grouping.{sorted_once, pair_order, pair_ties}
use Rattle.batch_insert.proofs.proposals.sort_once.Goals as goal

pub returns-clause-items : goal.returns-clause-items
returns-clause-items c = dedup_is _ _ _ c.dedup.ensures.filtered ∙ sorted_once pair_cmp pair_order _ pair_ties c.args.pairs.now.items c.sort_unstable.new.self.items c.sort_unstable.ensures.permutation c.sort_unstable.ensures.sorted
