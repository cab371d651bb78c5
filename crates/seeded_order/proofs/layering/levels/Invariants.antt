use Rattle.std.proofs.Common.{◌≡◌}
use Rattle.seeded_order.specs.Levels.{levels_of}
use Rattle.seeded_order.specs.Words.{after, generator}
use Rattle.seeded_order.proofs.layering.levels.Given as goal

abbrev pub invariant-loop-id : goal.invariant-loop-id
invariant-loop-id l = record {
  words : l.words ≡ after (generator l.seed 2) l._id;
  list : l.list.items ≡ levels_of l._id l.seed l.bits l.max;
}
