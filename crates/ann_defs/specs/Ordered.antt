-- The elements of a list in the order R, each once.
use Rattle.std.specs.Prelude.{◌≡◌, ◌⊎◌, ℕ, ◌<◌, List, [], ◌∷◌, length, slice_index}
use Rattle.std.specs.List.{fold, AllByRecursion}
use Rattle.std.specs.declared.cmp.Ordering.{Ordering}
use Rattle.std.specs.declared.cmp.Ordering.TheVariants.{Less}
use Rattle.std.specs.Ordering.{match_ordering}

-- an element stands somewhere in a list
abbrev pub Has : {K : Type 0} → List K → K → Type 0
Has [] x = ⊥
Has (y ∷ ys) x = (y ≡ x) ⊎ Has ys x

module _ {K : Type 0} (R : K → K → Ordering) where
  -- the list with one more in its place, once
  abbrev pub put : List K → K → List K
  put [] x = x ∷ []
  put (y ∷ ys) x = match_ordering (R x y) (x ∷ y ∷ ys) (y ∷ ys) (y ∷ put ys x)

  -- the elements in order, each once
  abbrev pub ordered : List K → List K
  ordered xs = fold put [] xs

  -- x comes before all of a list
  abbrev pub IsBelow : K → List K → Type 0
  IsBelow x ys = AllByRecursion (λ y. R x y ≡ Less) ys

  -- strictly ascending
  abbrev pub Rises : List K → Type 0
  Rises [] = Unit {0}
  Rises (x ∷ xs) = IsBelow x xs × Rises xs

-- numbers that ascend: each is below those after it
abbrev pub Ascends : List ℕ → Type 0
Ascends ids = (j k : ℕ) → j < k → k < length ids → slice_index ids j < slice_index ids k
