-- The layers before a batch.
use Rattle.std.specs.Prelude.{ℕ, List, length}
use Rattle.beam_search.specs.Room.{Room}
use Rattle.beam_search.specs.Serving.{Serves}
use Rattle.hnsw_build.specs.declared.layers.Layers.{Layers}
use Rattle.hnsw_build.specs.HnswBuilds.{build_of, layers_at}
use Rattle.hnsw_build.specs.LayeredInsert.{LayeredBuild}

-- what decides the build
abbrev pub build_in : Layers → LayeredBuild
build_in w = build_of w.plan.now.points.now.vectors w.plan.now.settings w.plan.now.levels.items

-- their rows
abbrev pub layers_in : Layers → List (List (List ℕ))
layers_in w = layers_at w.plan.now.points.now.vectors w.plan.now.settings w.plan.now.levels.items w.done

-- which scratches serve their searches
abbrev pub ServesIn : Layers → Room → Type 0
ServesIn w s = Serves (length w.plan.now.points.now.vectors) w.plan.now.settings.beam s
