use Rattle.std.proofs.Common.{◌≡◌, ◌<◌, ℕ, false, get_or}
use Rattle.std.specs.Prelude.{◌==◌}
use Rattle.hnsw_build.specs.Layering.{level_in, top_of}
use Rattle.hnsw_build.proofs.entry.entry_point.Given as goal

abbrev pub invariant-loop-id : goal.invariant-loop-id
invariant-loop-id l = (k : ℕ) → k < l.id-index → (level_in l.levels (get_or l.order k 0) == top_of l.levels) ≡ false
