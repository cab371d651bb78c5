-- Sums and maxima over the layers of an index.
use Rattle.std.proofs.Common.{◌≡◌, ℕ, ◌+◌, ◌≤◌, true, List, [], ◌∷◌, map, length, max, refl, sym, ap, ◌∙◌, arith}
use Rattle.std.specs.List.{sum_by, fold, enumerate_from}
use Rattle.std.proofs.lemmas.List.Sums.{sum_by-cons}
use Rattle.std.proofs.lemmas.Bool.Decides.{nat_tests}
use Rattle.graph_rows.specs.Index.{layer_rows, longest_in}
use Rattle.graph_rows.specs.Layers.{Layered}
use Rattle.graph_rows.specs.WellFormed.{layers_fit}
use Rattle.graph_rows.proofs.LayerLists.{rows_enumerate}

abbrev pub edges_in : List (ℕ × List ℕ) → ℕ
edges_in layer = sum_by (λ row. length row) (layer_rows layer)

abbrev pub entries_of : Layered → List (ℕ × List ℕ)
entries_of l = l.entries

sum_entries : (upper : List Layered) → sum_by edges_in (map entries_of upper) ≡ sum_by (λ (l : Layered). edges_in l.entries) upper
sum_entries [] = refl
sum_entries (l ∷ upper) = sum_by-cons edges_in l.entries (map entries_of upper) ∙ ap (λ n. edges_in l.entries + n) (sum_entries upper) ∙ sym (sum_by-cons (λ (k : Layered). edges_in k.entries) l upper)

pub edges_are : (base : List (List ℕ)) (upper : List Layered) → sum_by edges_in (enumerate_from 0 base ∷ map entries_of upper) ≡ sum_by (λ row. length row) base + sum_by (λ (l : Layered). edges_in l.entries) upper
edges_are base upper =
    sum_by-cons edges_in (enumerate_from 0 base) (map entries_of upper)
    ∙ ap (λ rows. sum_by (λ row. length row) rows + sum_by edges_in (map entries_of upper)) (rows_enumerate 0 base)
    ∙ ap (λ n. sum_by (λ row. length row) base + n) (sum_entries upper)

abbrev longer : ℕ → List (ℕ × List ℕ) → ℕ
longer most layer = max most (longest_in (layer_rows layer))

fold_entries : (most : ℕ) (upper : List Layered) → fold longer most (map entries_of upper) ≡ fold (λ most (l : Layered). max most (longest_in (layer_rows l.entries))) most upper
fold_entries most [] = refl
fold_entries most (l ∷ upper) = fold_entries (longer most l.entries) upper

pub longest_is : (base : List (List ℕ)) (upper : List Layered)
    → fold longer 0 (enumerate_from 0 base ∷ map entries_of upper) ≡ fold (λ most (l : Layered). max most (longest_in (layer_rows l.entries))) (longest_in base) upper
longest_is base upper =
    let first : longer 0 (enumerate_from 0 base) ≡ longest_in base = ap (λ rows. max 0 (longest_in rows)) (rows_enumerate 0 base) ∙ omega arith in
    fold_entries (longer 0 (enumerate_from 0 base)) upper ∙ ap (λ most. fold (λ most (l : Layered). max most (longest_in (layer_rows l.entries))) most upper) first

pub layers_few : (kind layers : ℕ) → layers_fit kind layers ≡ true → layers ≤ 16
layers_few kind layers fit = grind (arith, nat_tests)
