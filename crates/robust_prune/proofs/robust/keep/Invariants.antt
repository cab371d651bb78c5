use Rattle.std.proofs.Common.{◌≡◌, ℕ, Bool, take, drop, ◌≤◌}
use Rattle.std.specs.List.{list_all}
use Rattle.std.specs.List.Sorted.{IsPermutation}
use Rattle.ann_defs.specs.Nearness.{ids_of}
use Rattle.ann_defs.specs.RobustPrune.{stays}
use Rattle.robust_prune.proofs.Keeping.{IsKeeping}
use Rattle.robust_prune.proofs.robust.keep.Given as goal

abbrev pub invariant-loop-i : goal.invariant-loop-i
invariant-loop-i l = record {
  keeping : IsKeeping (stays l.points.vectors l.alpha.num l.alpha.den) l.degree l.fn.cands l.out l.i l.len;
  same : (t : ℕ → Bool) → list_all t (ids_of (take l.len l.cands)) ≡ list_all t (take l.len l.out);
  moved : IsPermutation l.fn.cands l.cands;
  left : drop l.i l.cands ≡ drop l.i l.fn.cands;
  few : l.len ≤ l.i;
  rest : drop l.len l.out ≡ drop l.len l.fn.out;
}
