use Rattle.std.proofs.Common.{◌≡◌, ◌<◌, ℕ, length, get_or}
use Rattle.neighbour_lists.specs.Edges.{IsStart}
use Rattle.neighbour_lists.proofs.edges.starts_of.Given as goal

abbrev pub invariant-loop-t : goal.invariant-loop-t
invariant-loop-t l = record {
  count : length l.starts.items ≡ l.t;
  starts : (k : ℕ) → k < l.t → IsStart l.edges k (get_or l.starts.items k 0);
}
