use Rattle.std.proofs.Common.{◌≡◌, ◌+◌, ◌/◌, map, vec_len}
use Rattle.std.specs.List.{range_with_len}
use Rattle.seeded_order.specs.Generator.{generated_byte}
use Rattle.seeded_order.specs.Words.{after, generator, word_of}
use Rattle.seeded_order.proofs.generator.made_bytes.Given as goal

abbrev pub invariant-loop-k : goal.invariant-loop-k
invariant-loop-k l = record {
  words : l.words ≡ after (generator l.seed 0) ((l.first + l.k) / 8 + 1);
  word : l.word ≡ word_of l.seed 0 ((l.first + l.k) / 8);
  bytes : l.bytes.items ≡ map (generated_byte l.seed) (range_with_len l.first l.k);
  len : vec_len l.bytes ≡ l.k;
}
