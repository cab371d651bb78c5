-- A layer as one list of ids with their rows.
use Rattle.std.proofs.Common.{◌≡◌, ℕ, zero, suc, ◌+◌, ◌<◌, List, [], ◌∷◌, map, length, get_or, set, replicate, refl, ap, arith}
use Rattle.std.specs.List.{zip, enumerate_from, range_with_len}
use Rattle.graph_rows.specs.Index.{layer_ids, layer_rows}

pub ids_zip : (ids : List ℕ) (rows : List (List ℕ)) → length rows ≡ length ids → layer_ids (zip ids rows) ≡ ids
ids_zip [] rows same = refl
ids_zip (id ∷ ids) [] same = absurd (omega arith)
ids_zip (id ∷ ids) (row ∷ rows) same = ap (λ xs. id ∷ xs) (ids_zip ids rows (omega arith))

pub rows_zip : (ids : List ℕ) (rows : List (List ℕ)) → length rows ≡ length ids → layer_rows (zip ids rows) ≡ rows
rows_zip [] [] same = refl
rows_zip [] (row ∷ rows) same = absurd (omega arith)
rows_zip (id ∷ ids) [] same = absurd (omega arith)
rows_zip (id ∷ ids) (row ∷ rows) same = ap (λ xs. row ∷ xs) (rows_zip ids rows (omega arith))

-- another row
pub zip_set : (ids : List ℕ) (rows : List (List ℕ)) (i id : ℕ) (row : List ℕ) → i < length ids → get_or ids i 0 ≡ id → zip ids (set rows i row) ≡ set (zip ids rows) i (id, row)
zip_set [] rows i id row lt is = absurd (omega arith)
zip_set (x ∷ ids) [] i id row lt is = refl
zip_set (x ∷ ids) (old ∷ rows) zero id row lt is = ap (λ k. (k, row) ∷ zip ids rows) is
zip_set (x ∷ ids) (old ∷ rows) (suc i) id row lt is = ap (λ xs. (x, old) ∷ xs) (zip_set ids rows i id row (omega arith) is)

abbrev pub bare : ℕ → ℕ × List ℕ
bare id = (id, [])

abbrev none : ℕ → List (List ℕ)
none n = replicate n []

pub zip_empty : (ids : List ℕ) → zip ids (none (length ids)) ≡ map bare ids
zip_empty [] = refl
zip_empty (id ∷ ids) = ap (λ xs. bare id ∷ xs) (zip_empty ids)

pub rows_enumerate : (n : ℕ) (rows : List (List ℕ)) → layer_rows (enumerate_from n rows) ≡ rows
rows_enumerate n [] = refl
rows_enumerate n (row ∷ rows) = ap (λ xs. row ∷ xs) (rows_enumerate (n + 1) rows)

pub ids_enumerate : (n : ℕ) (rows : List (List ℕ)) → layer_ids (enumerate_from n rows) ≡ range_with_len n (length rows)
ids_enumerate n [] = refl
ids_enumerate n (row ∷ rows) = ap (λ xs. n ∷ xs) (ids_enumerate (n + 1) rows)

pub length-zip : (ids : List ℕ) (rows : List (List ℕ)) → length rows ≡ length ids → length (zip ids rows) ≡ length ids
length-zip [] rows same = refl
length-zip (id ∷ ids) [] same = absurd (omega arith)
length-zip (id ∷ ids) (row ∷ rows) same = ap suc (length-zip ids rows (omega arith))
