use Rattle.part_tests.proofs.PrunedLine.{none_are_candidates}
use Rattle.part_tests.proofs.pruning.prune_none.Goals as goal

pub prune-requires-clause-cands : goal.prune-requires-clause-cands
prune-requires-clause-cands c = none_are_candidates c.args.points.now.vectors 0
