use Rattle.std.proofs.Common.{◌≡◌, ◌++◌, map, take}
use Rattle.hnsw_build.specs.Grown.{build_in, layers_in}
use Rattle.hnsw_build.specs.Wanted.{rows_of_point}
use Rattle.hnsw_build.proofs.blocks.keep_rows.Given as goal

abbrev pub invariant-loop-i : goal.invariant-loop-i
invariant-loop-i l = map (λ y. y.items) l.rows.items ≡ map (λ y. y.items) l.fn.rows.items ++ map (rows_of_point (build_in l.layers) (layers_in l.layers)) (take l.i l.ids)
