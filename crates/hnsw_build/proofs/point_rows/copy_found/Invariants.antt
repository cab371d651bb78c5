use Rattle.std.proofs.Common.{◌≡◌, take}
use Rattle.ann_defs.specs.Nearness.{ids_of}
use Rattle.hnsw_build.proofs.point_rows.copy_found.Given as goal

abbrev pub invariant-loop-i : goal.invariant-loop-i
invariant-loop-i l = take l.i l.out ≡ ids_of (take l.i l.nears)
