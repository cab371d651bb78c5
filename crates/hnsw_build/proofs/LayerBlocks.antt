-- The blocks of a batch's new rows in one layer.
use Rattle.std.proofs.Common.{◌≡◌, ℕ, ◌+◌, ◌*◌, ◌<◌, ◌≤◌, List, [], Vec, Global, map, take, drop, length, get_or, sym, ap, ◌∙◌, subst, arith}
use Rattle.std.proofs.lemmas.List.{length-map, get_or-map}
use Rattle.std.proofs.Math.Nat.{mul-le-mul_right}
use Rattle.batch_insert.specs.Padded.{padded}
use Rattle.hnsw_build.specs.Layering.{level_in}
use Rattle.hnsw_build.specs.LayeredInsert.{LayeredBuild, new_row_in}
use Rattle.hnsw_build.specs.Wanted.{rows_of_point}
use Rattle.hnsw_build.proofs.PointRows.{length_rows, row_at}

abbrev pub items_of : Vec ℕ Global → List ℕ
items_of v = v.items

-- one of some rows in memory
pub row_of_vec : (f : ℕ → List ℕ) (rows : List (Vec ℕ Global)) (batch : List ℕ) (i : ℕ) (v : Vec ℕ Global) → map items_of rows ≡ map f batch → i < length batch → v ≡ get_or rows i v → v.items ≡ f (get_or batch i 0)
row_of_vec f rows batch i v same lt is =
    let many : length rows ≡ length batch = sym (length-map rows items_of) ∙ ap (λ (xs : List (List ℕ)). length xs) same ∙ length-map batch f in
    let within : i < length rows = subst (λ m. i < m) (sym many) lt in
    ap items_of is
    ∙ sym (get_or-map items_of rows i v [] within)
    ∙ ap (λ (xs : List (List ℕ)). get_or xs i []) same
    ∙ get_or-map f batch i 0 [] lt

module _ (b : LayeredBuild) (layers : List (List (List ℕ))) (p l : ℕ) (words : List ℕ) (is : words ≡ rows_of_point b layers p) (le : l ≤ level_in b.levels p) where
  -- the row of the layer is within
  pub part_within : l * (b.degree + 1) + (b.degree + 1) ≤ length words
  part_within =
      let all = length_rows b layers p 0 (level_in b.levels p + 1) in
      let long = ap (λ (xs : List ℕ). length xs) is in
      let some : (l + 1) * (b.degree + 1) ≤ (level_in b.levels p + 1) * (b.degree + 1) = mul-le-mul_right {m = l + 1} {n = level_in b.levels p + 1} (b.degree + 1) (omega arith) in
      let split : (l + 1) * (b.degree + 1) ≡ l * (b.degree + 1) + (b.degree + 1) = omega arith in
      omega (arith, all, long, some, split)

  -- and is the new row of the point there
  pub part_is : take (b.degree + 1) (drop (l * (b.degree + 1)) words) ≡ padded (b.degree + 1) (new_row_in b layers l p)
  part_is = ap (λ (xs : List ℕ). take (b.degree + 1) (drop (l * (b.degree + 1)) xs)) is ∙ row_at b layers p l (level_in b.levels p + 1) (omega arith)
