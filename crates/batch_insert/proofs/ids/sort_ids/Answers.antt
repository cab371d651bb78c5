use Rattle.std.proofs.Common.{◌∙◌, sym, subst}
use Rattle.std.specs.Ordering.{nat_cmp}
use Rattle.std.proofs.lemmas.List.Filters.{dedup_is}
use Rattle.batch_insert.proofs.Grouping.{sorted_once, nat_order, nat_ties}
use Rattle.ann_defs.specs.Ordered.{Ascends, ordered}
use Rattle.batch_insert.proofs.Ascending.{ascends, ordered_rises}
use Rattle.batch_insert.proofs.ids.sort_ids.Goals as goal

pub returns-clause-items : goal.returns-clause-items
returns-clause-items c = dedup_is _ _ _ c.dedup.ensures.filtered ∙ sorted_once nat_cmp nat_order _ nat_ties c.args.ids.now.items c.sort_unstable.new.self.items c.sort_unstable.ensures.permutation c.sort_unstable.ensures.sorted

pub returns-clause-ascend : goal.returns-clause-ascend
returns-clause-ascend c = subst Ascends (sym (returns-clause-items c)) (ascends (ordered nat_cmp c.args.ids.now.items) (ordered_rises c.args.ids.now.items))
