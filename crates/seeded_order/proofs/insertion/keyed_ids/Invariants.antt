use Rattle.std.proofs.Common.{◌≡◌, map}
use Rattle.std.specs.List.{range_with_len}
use Rattle.seeded_order.specs.Words.{after, generator, word_of}
use Rattle.seeded_order.proofs.insertion.keyed_ids.Given as goal

abbrev pub invariant-loop-id : goal.invariant-loop-id
invariant-loop-id l = record {
  words : l.words ≡ after (generator l.seed 1) l.id;
  keys : l.keys.items ≡ map (λ id. (word_of l.seed 1 id, id)) (range_with_len 0 l.id);
}
