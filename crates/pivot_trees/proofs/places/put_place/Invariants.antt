use Rattle.std.proofs.Common.{◌≡◌, ◌<◌, ℕ, if◌then◌else◌, length, take, get_or}
use Rattle.ann_defs.specs.Graph.{has}
use Rattle.pivot_trees.proofs.places.put_place.Given as goal

abbrev pub invariant-loop-id : goal.invariant-loop-id
invariant-loop-id l = record {
  count : length l.places ≡ length l.fn.places;
  each : (id : ℕ) → id < length l.fn.places → get_or l.places id 0 ≡ (if has (take l.id-index l.ids) id then l.place else get_or l.fn.places id 0);
}
