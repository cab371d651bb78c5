-- The HNSW index of a point set, settings and levels: what a build must give, whatever its workers and its pool.
use Rattle.std.specs.Prelude.{ℕ, ◌+◌, List, None, map, length}
use Rattle.std.specs.List.{range_with_len}
use Rattle.ann_defs.specs.Distance.{dim_of}
use Rattle.graph_rows.specs.Index.{Contents}
use Rattle.hnsw_build.specs.declared.settings.HnswSettings.{HnswSettings}
use Rattle.hnsw_build.specs.Layering.{top_of}
use Rattle.hnsw_build.specs.HnswBuilds.{start_of, batches_of, entries_at}

-- kind 2, with a layer for each level: the ids of the layer with their rows after the last batch
abbrev pub hnsw_index : List (List ℕ) → HnswSettings → List ℕ → Contents
hnsw_index points s levels = record {
  kind = 2;
  count = length points;
  dim = dim_of points;
  degree = s.degree;
  start = start_of points s levels;
  layers = map (entries_at points s levels (batches_of points s)) (range_with_len 0 (top_of levels + 1));
  stamp = None;
}
