use Rattle.std.proofs.Common.{◌≡◌, ◌+◌, ◌<◌, ◌≤◌, ℕ, length, drop, get_or}
use Rattle.pivot_trees.specs.Blocks.{lists_of}
use Rattle.pivot_trees.specs.Leaves.{place_of_id}
use Rattle.pivot_trees.proofs.places.place_ids.Given as goal

abbrev pub invariant-loop-place : goal.invariant-loop-place
invariant-loop-place l = record {
  within : l.place ≤ length l.leaves;
  many : length l.places.items ≡ l.count;
  first : (id : ℕ) → id < l.count → get_or l.places.items id 0 ≡ l.place + place_of_id (drop l.place (lists_of l.leaves)) id;
}

abbrev pub decreases-loop-place : goal.decreases-loop-place
decreases-loop-place l = l.place
