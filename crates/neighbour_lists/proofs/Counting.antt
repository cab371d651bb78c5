-- How many entries a round changes.
use Rattle.std.proofs.Common.{◌≡◌, ℕ, ◌+◌, not, List, [], ◌∷◌, length, refl, sym, ap, ◌∙◌, inl, inr, arith}
use Rattle.std.specs.List.{filter, range_with_len, sum_by}
use Rattle.std.proofs.lemmas.List.FromFn.{length-map-range_with_len}
use Rattle.std.proofs.lemmas.List.Sums.{sum_by-cons}
use Rattle.ann_defs.specs.Graph.{has, row_in}
use Rattle.ann_defs.specs.Ordered.{Has}
use Rattle.ann_defs.proofs.Members.{range_has}
use Rattle.neighbour_lists.specs.Changes.{entered_between}
use Rattle.neighbour_lists.specs.ListRound.{next_row, next_rows, entered, changed}
use Rattle.neighbour_lists.proofs.Neighbourhoods.{row_of_next}

sum_by_same : (f g : ℕ → ℕ) (xs : List ℕ) → ((x : ℕ) → Has xs x → f x ≡ g x) → sum_by f xs ≡ sum_by g xs
sum_by_same f g [] h = refl
sum_by_same f g (x ∷ xs) h =
    sum_by-cons f x xs
    ∙ (λ i. h x (inl refl) i + sum_by_same f g xs (λ z m. h z (inr m)) i)
    ∙ sym (sum_by-cons g x xs)

-- what enters between the lists before a round and those after it
pub entered_changed : (points : List (List ℕ)) (list : ℕ) (rows : List (List ℕ)) → sum_by (entered_between rows (next_rows points list rows)) (range_with_len 0 (length (next_rows points list rows))) ≡ changed points list rows
entered_changed points list rows =
    ap (λ n. sum_by (entered_between rows (next_rows points list rows)) (range_with_len 0 n)) (length-map-range_with_len (next_row points list rows) 0 (length points))
    ∙ sum_by_same (entered_between rows (next_rows points list rows)) (entered points list rows) (range_with_len 0 (length points)) (λ v m.
    let below = (range_has 0 (length points) v m).1 in
    ap (λ (row : List ℕ). length (filter (λ u. not (has (row_in rows v) u)) row)) (row_of_next points list rows v (omega arith)))
