use Rattle.std.proofs.Common.{◌∙◌, map, sym, ap}
use Rattle.std.specs.List.{range_with_len}
use Rattle.neighbour_lists.specs.Fresh.{row_without}
use Rattle.neighbour_lists.proofs.fresh.hoods_without.Goals as goal

pub rows_without-requires-2-clause-seen : goal.rows_without-requires-2-clause-seen
rows_without-requires-2-clause-seen c = c.requires.1 ∙ sym c.requires.0

pub rows_without-requires-2-clause-others : goal.rows_without-requires-2-clause-others
rows_without-requires-2-clause-others c = c.requires.2 ∙ sym c.requires.0

pub returns : goal.returns
returns c = record {
  rows = c.in_ok-fresh.ensures.rows;
  others = c.in_ok-fresh_others.ensures.rows ∙ ap (λ n. map (row_without c.args.seen.now.rows.rows c.args.seen.now.others.rows c.args.others.now.rows) (range_with_len 0 n)) c.requires.0;
}
