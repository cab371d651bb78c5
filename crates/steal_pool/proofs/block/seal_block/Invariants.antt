use Rattle.std.proofs.Common.{◌≡◌, ◌++◌, ◌∷◌, ◌+◌, ◌-◌, length, take, drop, replicate}
use Rattle.steal_pool.proofs.block.seal_block.Given as goal

abbrev pub invariant-loop-i : goal.invariant-loop-i
invariant-loop-i l = record {
  front : take l.i l.out ≡ (l.first ∷ take l.len (drop 1 l.fn.out)) ++ replicate (l.i - (l.len + 1)) 0;
  size : length l.out ≡ length l.fn.out;
}
