use Rattle.std.proofs.Common.{◌≡◌, ◌++◌, ◌∷◌, ◌+◌, ◌*◌, ◌-◌, length, take, replicate}
use Rattle.batch_search.specs.Blocks.{words_of}
use Rattle.batch_search.proofs.block.write_answer.Given as goal

abbrev pub invariant-loop-at : goal.invariant-loop-at
invariant-loop-at l = record {
  front : take (2 * l.at + 1) l.out ≡ length l.nears ∷ words_of (take l.at l.nears);
  size : length l.out ≡ length l.fn.out;
}

abbrev pub invariant-loop-i : goal.invariant-loop-i
invariant-loop-i l = record {
  front : take l.i l.out ≡ (length l.nears ∷ words_of l.nears) ++ replicate (l.i - (2 * length l.nears + 1)) 0;
  size : length l.out ≡ length l.fn.out;
}
