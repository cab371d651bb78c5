use Rattle.std.proofs.Common.{◌≡◌, ◌*◌, ◌^◌, ◌≤◌, take, length}
use Rattle.annbuild_commands.specs.Trying.{answer_count, dist_total}
use Rattle.annbuild_commands.proofs.summed.sums_in.Given as goal

abbrev pub invariant-loop-j : goal.invariant-loop-j
invariant-loop-j l = record {
  answers : l.sums.answers ≡ answer_count (take l.j l.answers);
  total : l.sums.total ≡ dist_total (take l.j l.answers);
  count : l.sums.answers ≤ 1024 * l.j;
  bound : l.sums.total ≤ 2 ^ 42 * l.j;
  room : length l.nears ≡ length l.initial.nears;
}
