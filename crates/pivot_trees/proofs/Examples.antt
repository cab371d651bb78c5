-- Trees of a few points of one dimension.
use Rattle.std.proofs.Common.{◌≡◌, ℕ, List, [], ◌∷◌, refl}
use Rattle.pivot_trees.specs.Leaves.{parts_of, leaves_of, leaf_with}

abbrev line : List (List ℕ)
line = (0 ∷ []) ∷ (10 ∷ []) ∷ (1 ∷ []) ∷ (12 ∷ []) ∷ (3 ∷ []) ∷ (30 ∷ []) ∷ (2 ∷ []) ∷ []

-- equal points: a side is always empty, so the lists are halved
abbrev same : List (List ℕ)
same = (7 ∷ []) ∷ (7 ∷ []) ∷ (7 ∷ []) ∷ (7 ∷ []) ∷ (7 ∷ []) ∷ []

halved : leaves_of same 0 0 2 ≡ (3 ∷ 4 ∷ []) ∷ (0 ∷ 1 ∷ []) ∷ (2 ∷ []) ∷ []
unfolding parts_of
halved = refl

first_tree : leaves_of line 0 0 2 ≡ (5 ∷ []) ∷ (0 ∷ 2 ∷ []) ∷ (1 ∷ 3 ∷ []) ∷ (4 ∷ 6 ∷ []) ∷ []
unfolding parts_of
first_tree = refl

second_tree : leaves_of line 7 1 2 ≡ (1 ∷ 3 ∷ []) ∷ (5 ∷ []) ∷ (4 ∷ 6 ∷ []) ∷ (0 ∷ 2 ∷ []) ∷ []
unfolding parts_of
second_tree = refl

leaf : leaf_with (leaves_of line 0 0 2) 6 ≡ 4 ∷ 6 ∷ []
unfolding parts_of
leaf = refl
