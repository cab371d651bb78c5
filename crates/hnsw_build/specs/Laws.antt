-- What the layers of a build amount to.
use Rattle.std.specs.Prelude.{◌≡◌, ℕ, ◌<◌, ◌≤◌, true, false, List, [], length, slice_index_or}
use Rattle.std.specs.List.{All}
use Rattle.ann_defs.specs.Graph.{IsGoodRow}
use Rattle.hnsw_build.specs.Layering.{level_in, top_of, is_in}
use Rattle.hnsw_build.specs.LayeredInsert.{LayeredBuild, row_of_layer, bound_of, layers_after}

-- a level for each point, and an entry point of greatest level
pub record IsLayered (b : LayeredBuild) : Type 0 where
  pub levelled : length b.levels ≡ length b.points
  pub start_below : b.start < length b.points
  pub start_top : level_in b.levels b.start ≡ top_of b.levels

-- in each layer, a good row of ids of the layer for each id that it holds, and none for any other
pub record AreGoodLayers (b : LayeredBuild) (layers : List (List (List ℕ))) : Type 0 where
  pub count : (l : ℕ) → l ≤ top_of b.levels → length (slice_index_or layers l []) ≡ length b.points
  pub good : (l u : ℕ) → l ≤ top_of b.levels → is_in b.levels l u ≡ true → IsGoodRow (length b.points) (bound_of b.degree l) u (row_of_layer layers l u)
  pub inside : (l u : ℕ) → l ≤ top_of b.levels → is_in b.levels l u ≡ true → All (λ v. is_in b.levels l v ≡ true) (row_of_layer layers l u)
  pub empty : (l u : ℕ) → l ≤ top_of b.levels → is_in b.levels l u ≡ false → row_of_layer layers l u ≡ []

-- the layers after any number of batches are good
abbrev pub LayersStayGood : Type 0
LayersStayGood = (b : LayeredBuild) (order : List ℕ) (cap k : ℕ) → IsLayered b → AreGoodLayers b (layers_after b order cap k)
