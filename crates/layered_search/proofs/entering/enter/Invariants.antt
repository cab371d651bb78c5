use Rattle.std.proofs.Common.{◌-◌, ◌≡◌, ℕ, ◌<◌, ◌≤◌, [], ◌∷◌, true, length}
use Rattle.layered_search.specs.Entering.{holds_at, upper_row}
use Rattle.layered_search.specs.KnnSearch.{entries_down}
use Rattle.layered_search.proofs.entering.enter.Given as goal

abbrev pub invariant-loop-layer : goal.invariant-loop-layer
invariant-loop-layer l = record {
  above : l.to ≤ l.layer;
  within : l.layer ≤ length l.upper;
  walked : entries_down l.points.vectors (upper_row l.upper) l.query 1 (l.entry ∷ []) l.layer l.to ≡ entries_down l.points.vectors (upper_row l.upper) l.query 1 (l.start ∷ []) (length l.upper) l.to;
  below : l.entry < length l.points.vectors;
  held : (k : ℕ) → k < l.layer → holds_at l.upper k l.entry ≡ true;
  count : l.scratch.count ≡ l.fn.scratch.count;
  beam : l.scratch.beam ≡ l.fn.scratch.beam;
}

abbrev pub decreases-loop-layer : goal.decreases-loop-layer
decreases-loop-layer l = l.layer - l.to
