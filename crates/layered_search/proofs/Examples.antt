-- A descent worked out by hand.
use Rattle.std.proofs.Common.{◌≡◌, ℕ, List, None, [], ◌∷◌, refl}
use Rattle.graph_rows.specs.Index.{Contents}
use Rattle.layered_search.specs.KnnSearch.{entries_down}
use Rattle.layered_search.specs.Descent.{contents_row, descent_in}

-- the points 0, 10, 20 and 30
abbrev line : List (List ℕ)
line = (0 ∷ []) ∷ (10 ∷ []) ∷ (20 ∷ []) ∷ (30 ∷ []) ∷ []

-- all of them in a chain, and above it the points 1 and 3, each with the other as its row
abbrev index : Contents
index = record {
  kind = 2;
  count = 4;
  dim = 1;
  degree = 1;
  start = 1;
  layers = ((0, 1 ∷ []) ∷ (1, 0 ∷ 2 ∷ []) ∷ (2, 1 ∷ 3 ∷ []) ∷ (3, 2 ∷ []) ∷ []) ∷ ((1, 3 ∷ []) ∷ (3, 1 ∷ []) ∷ []) ∷ [];
  stamp = None;
}

-- a query near the last point goes over to it in layer 1
entered : entries_down line (contents_row index) (29 ∷ []) 1 (1 ∷ []) 1 0 ≡ 3 ∷ []
entered = refl

-- and layer 0 is searched from there
near_30 : descent_in line index (29 ∷ []) 2 ≡ record { dist = 1; id = 3 } ∷ record { dist = 81; id = 2 } ∷ []
unfolding descent_in
near_30 = refl
