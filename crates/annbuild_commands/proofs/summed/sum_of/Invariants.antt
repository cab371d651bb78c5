use Rattle.std.proofs.Common.{◌≡◌, ◌*◌, ◌^◌, ◌≤◌, take}
use Rattle.annbuild_commands.specs.Trying.{dist_sum}
use Rattle.annbuild_commands.proofs.summed.sum_of.Given as goal

abbrev pub invariant-loop-near : goal.invariant-loop-near
invariant-loop-near l = record {
  sum : l.sum ≡ dist_sum (take l.near-index l.nears);
  bound : l.sum ≤ 2 ^ 32 * l.near-index;
}
