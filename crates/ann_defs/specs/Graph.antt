-- Directed graphs as rows of ids: the row of an id is the list of its out-neighbours.
use Rattle.std.specs.Prelude.{◌≡◌, ◌≢◌, ℕ, ◌<◌, ◌≤◌, Bool, true, not, ◌==◌, List, [], length, nat_eq, slice_index_or}
use Rattle.std.specs.List.{All, IsDistinct, filter, list_any}

-- whether an id is in a list
abbrev pub has : List ℕ → ℕ → Bool
has ids id = list_any (λ x. x == id) ids

-- the ids other than this one
abbrev pub without : ℕ → List ℕ → List ℕ
without id ids = filter (λ x. not (x == id)) ids

-- the row of an id in a list of rows, one for each id from 0 on
abbrev pub row_in : List (List ℕ) → ℕ → List ℕ
row_in graph id = slice_index_or graph id []

-- a graph that a search can go through: the held ids are of n points, and each of their rows has distinct held ids
pub record IsGraph (n : ℕ) (held : ℕ → Bool) (row : ℕ → List ℕ) : Type 0 where
  pub below : (u : ℕ) → held u ≡ true → u < n
  pub inside : (u : ℕ) → held u ≡ true → All (λ v. held v ≡ true) (row u)
  pub distinct : (u : ℕ) → held u ≡ true → IsDistinct nat_eq (row u)

-- a row that a built graph may hold: at most `degree` distinct points other than p
pub record IsGoodRow (n degree p : ℕ) (row : List ℕ) : Type 0 where
  pub inside : All (λ v. v < n) row
  pub distinct : IsDistinct nat_eq row
  pub others : All (λ v. v ≢ p) row
  pub short : length row ≤ degree

-- a good row for each of n points
pub record AreGoodRows (n degree : ℕ) (rows : List (List ℕ)) : Type 0 where
  pub count : length rows ≡ n
  pub good : (u : ℕ) → u < n → IsGoodRow n degree u (slice_index_or rows u [])
