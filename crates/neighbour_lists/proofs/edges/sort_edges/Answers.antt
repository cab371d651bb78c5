use Rattle.std.proofs.Common.{◌∙◌}
use Rattle.std.proofs.lemmas.List.Filters.{dedup_is}
use Rattle.batch_insert.proofs.Grouping.{sorted_once}
use Rattle.neighbour_lists.specs.Edges.{edge_cmp}
use Rattle.neighbour_lists.proofs.EdgeOrder.{edge_ties}
use Rattle.neighbour_lists.proofs.Reversing.{edge_order}
use Rattle.neighbour_lists.proofs.edges.sort_edges.Goals as goal

pub returns-clause-items : goal.returns-clause-items
returns-clause-items c = dedup_is _ _ _ c.dedup.ensures.filtered ∙ sorted_once edge_cmp edge_order _ edge_ties c.args.edges.now.items c.sort_unstable.new.self.items c.sort_unstable.ensures.permutation c.sort_unstable.ensures.sorted
