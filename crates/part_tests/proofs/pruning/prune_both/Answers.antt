use Rattle.part_tests.proofs.PrunedLine.{both_are_candidates}
use Rattle.part_tests.proofs.pruning.prune_both.Goals as goal

pub prune-requires-clause-cands : goal.prune-requires-clause-cands
prune-requires-clause-cands c = rw c.requires.points both_are_candidates
