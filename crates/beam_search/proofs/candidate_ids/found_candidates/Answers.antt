use Rattle.std.proofs.Common.{length}
use Rattle.near_lists.proofs.Gathering.{few_distinct}
use Rattle.beam_search.proofs.candidate_ids.found_candidates.Goals as goal

pub lent_room-requires-clause-last : goal.lent_room-requires-clause-last
lent_room-requires-clause-last c = record {
  count = c.requires.points;
  in_range = c.requires.in_range;
  near = c.requires.near;
  short = λ _. few_distinct (length c.args.points.now.vectors) c.args.scratch.now.last.found c.requires.in_range c.requires.distinct;
  few = c.requires.few;
}
