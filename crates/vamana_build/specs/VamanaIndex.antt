-- The Vamana index of a point set and settings: what a build must give, whatever its workers and its pool.
--
-- The graph is that of DiskANN (Subramanya and others, "DiskANN: Fast Accurate Billion-point Nearest Neighbor Search on
-- a Single Node", NeurIPS 2019: GreedySearch, RobustPrune and the insertion of Algorithms 1 to 3), with the points
-- inserted in batches of doubling size (Manohar and others, "ParlayANN: Scalable and Deterministic Parallel Graph-Based
-- Approximate Nearest Neighbor Search Algorithms", PPoPP 2024).
-- Differences from DiskANN: one pass over the points or two, by the settings, where of two the first has alpha 1, as
-- there; both go through the same order; rows begin empty, not random; the start is the first of the order, which is the
-- medoid only where the settings say so.
use Rattle.std.specs.Prelude.{ℕ, List, length}
use Rattle.ann_defs.specs.Distance.{dim_of}
use Rattle.graph_rows.specs.Index.{Contents, flat_contents}
use Rattle.vamana_build.specs.declared.settings.VamanaSettings.{VamanaSettings}
use Rattle.vamana_build.specs.Builds.{start_of, rows_at, batches_of}

-- kind 1, with one layer: the rows after the last batch
abbrev pub vamana_index : List (List ℕ) → VamanaSettings → Contents
vamana_index points s = flat_contents 1 (length points) (dim_of points) s.degree (start_of points s) (rows_at points s (batches_of points s))
