-- Rows that are all written.
use Rattle.std.proofs.Common.{◌≡◌, ℕ, ◌+◌, ◌<◌, cond, List, [], ◌∷◌, ◌++◌, set, map, length, refl, sym, ap, ◌∙◌, subst, inl, inr, arith}
use Rattle.std.specs.List.{All, range_with_len}
use Rattle.std.proofs.lemmas.List.{length-map, get_or-map}
use Rattle.std.proofs.lemmas.List.FromFn.{length-range_with_len, get_or-range_with_len}
use Rattle.ann_defs.specs.Graph.{has, row_in}
use Rattle.ann_defs.specs.Ordered.{Has}
use Rattle.ann_defs.proofs.Members.{all_from_has, true_has, range_has}
use Rattle.batch_insert.proofs.Differing.{range_more}
use Rattle.neighbour_lists.specs.WrittenRows.{with_rows}
use Rattle.neighbour_lists.proofs.NewRows.{with_more}

-- all ids are below their count
pub all_inside : (n : ℕ) → All (λ v. v < n) (range_with_len 0 n)
all_inside n = all_from_has (λ v. v < n) (range_with_len 0 n) (λ z h. let within = range_has 0 n z h in omega (arith, within.1))

-- two functions that are the same on the members of a list
map_on : {A B : Type 0} (f g : A → B) (xs : List A) → ((x : A) → Has xs x → f x ≡ g x) → map f xs ≡ map g xs
map_on f g [] same = refl
map_on f g (x ∷ xs) same = let here = same x (inl refl) in let rest = map_on f g xs (λ y h. same y (inr h)) in λ i. here i ∷ rest i

-- all rows are new where all ids are written
pub all_written : (row : ℕ → List ℕ) (rows : List (List ℕ)) (n : ℕ) → length rows ≡ n → with_rows row (range_with_len 0 n) rows ≡ map row (range_with_len 0 n)
all_written row rows n count =
    ap (λ k. map (λ v. cond (has (range_with_len 0 n) v) (row v) (row_in rows v)) (range_with_len 0 k)) count
    ∙ map_on (λ v. cond (has (range_with_len 0 n) v) (row v) (row_in rows v)) row (range_with_len 0 n)
    (λ v h. ap (λ b. cond b (row v) (row_in rows v)) (true_has (range_with_len 0 n) v h))

-- one row more is written, in ascending order
pub row_written : (new : ℕ → List ℕ) (rows before after : List (List ℕ)) (u : ℕ) (row : List ℕ) → u < length rows → before ≡ with_rows new (range_with_len 0 u) rows → row ≡ new u → after ≡ set before u row → after ≡ with_rows new (range_with_len 0 (u + 1)) rows
row_written new rows before after u row lt is same put =
    let z : 0 + u ≡ u = omega arith in
    put
    ∙ (λ i. set (is i) u (same i))
    ∙ with_more new rows (range_with_len 0 u) u lt
    ∙ ap (λ (ids : List ℕ). with_rows new ids rows) (sym (range_more 0 u ∙ ap (λ (v : ℕ). range_with_len 0 u ++ v ∷ []) z))

-- as many rows as ids
pub mapped_count : (row : ℕ → List ℕ) (n : ℕ) → length (map row (range_with_len 0 n)) ≡ n
mapped_count row n = length-map (range_with_len 0 n) row ∙ length-range_with_len 0 n

-- the row of an id
pub mapped_row : (row : ℕ → List ℕ) (n u : ℕ) → u < n → row_in (map row (range_with_len 0 n)) u ≡ row u
mapped_row row n u lt =
    get_or-map row (range_with_len 0 n) u 0 [] (subst (λ k. u < k) (sym (length-range_with_len 0 n)) lt)
    ∙ ap row (get_or-range_with_len 0 n u 0 lt ∙ omega arith)
