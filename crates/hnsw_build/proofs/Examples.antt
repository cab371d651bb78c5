-- Layers of four points, worked out by hand.
use Rattle.std.proofs.Common.{◌≡◌, [], ◌∷◌, refl}
use Rattle.hnsw_build.specs.Layering.{ids_in, entry_first, words_in}
use Rattle.hnsw_build.specs.LayeredInsert.{LayeredBuild, layers_after}

-- the points 0, 10, 20 and 30, of which the second is in layer 1
abbrev line : LayeredBuild
line = record { points = (0 ∷ []) ∷ (10 ∷ []) ∷ (20 ∷ []) ∷ (30 ∷ []) ∷ []; levels = 0 ∷ 1 ∷ 0 ∷ 0 ∷ []; start = 1; beam = 4; degree = 1 }

entry : entry_first line.levels (0 ∷ 1 ∷ 2 ∷ 3 ∷ []) ≡ 1 ∷ 0 ∷ 2 ∷ 3 ∷ []
entry = refl

in_layer_1 : ids_in line.levels 1 ≡ 1 ∷ []
in_layer_1 = refl

words : words_in line.levels 1 ≡ 14
words = refl

-- three batches: the point 1, the point 0, and the points 2 and 3, which don't see each other
layers : layers_after line (1 ∷ 0 ∷ 2 ∷ 3 ∷ []) 4 3 ≡ ((1 ∷ []) ∷ (0 ∷ 2 ∷ []) ∷ (1 ∷ []) ∷ (1 ∷ []) ∷ []) ∷ ([] ∷ [] ∷ [] ∷ [] ∷ []) ∷ []
layers = refl

-- with the points 1 and 3 in layer 1 each has the other as its row there, and 3 stands between 2 and itself in layer 0
abbrev two : LayeredBuild
two = record line { levels = 0 ∷ 1 ∷ 0 ∷ 1 ∷ [] }

two_layers : layers_after two (1 ∷ 0 ∷ 2 ∷ 3 ∷ []) 1 4 ≡ ((1 ∷ []) ∷ (0 ∷ 2 ∷ []) ∷ (1 ∷ 3 ∷ []) ∷ (2 ∷ []) ∷ []) ∷ ([] ∷ (3 ∷ []) ∷ [] ∷ (1 ∷ []) ∷ []) ∷ []
two_layers = refl
