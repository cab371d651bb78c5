use Rattle.std.proofs.Common.{◌≡◌, ℕ, ◌+◌, ◌<◌, ◌≤◌, get_or}
use Rattle.seeded_order.proofs.centroid.add_point.Given as goal

abbrev pub invariant-loop-j : goal.invariant-loop-j
invariant-loop-j l = record {
  done : (k : ℕ) → k < l.j → get_or l.sums k 0 ≡ get_or l.fn.sums k 0 + get_or l.point k 0;
  left : (k : ℕ) → l.j ≤ k → get_or l.sums k 0 ≡ get_or l.fn.sums k 0;
}
