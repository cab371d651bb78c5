use Rattle.std.proofs.Common.{◌≡◌, take, drop}
use Rattle.batch_search.specs.Blocks.{pairs_in}
use Rattle.batch_search.proofs.block.read_answer.Given as goal

abbrev pub invariant-loop-at : goal.invariant-loop-at
invariant-loop-at l = record { front : take l.at l.out ≡ take l.at (pairs_in (drop 1 l.block)) }
