-- A layer that was read: its ids and its rows in one list.
use Rattle.std.proofs.Common.{◌≡◌, ℕ, zero, suc, ◌+◌, ◌<◌, ◌≤◌, Bool, true, List, [], ◌∷◌, length, get_or, refl, sym, ap, subst, ◌∙◌, arith}
use Rattle.std.specs.List.{All, zip, enumerate_from, range_with_len}
use Rattle.std.proofs.lemmas.List.Elements.{All-from_get_or}
use Rattle.std.proofs.lemmas.List.FromFn.{length-enumerate_from, get_or-enumerate_from, get_or-range_with_len}
use Rattle.ann_defs.specs.Graph.{has}
use Rattle.graph_rows.specs.Index.{layer_ids, layer_rows}
use Rattle.ann_defs.specs.Ordered.{Ascends}
use Rattle.graph_rows.specs.Members.{AreRows}
use Rattle.graph_files.specs.Reading.{AreMembers}
use Rattle.graph_rows.specs.WellFormed.{IsRowIn, AreRowsOf, IsFurtherLayer}
use Rattle.graph_rows.proofs.LayerLists.{ids_zip, rows_zip, length-zip}

pub get_zip : (ids : List ℕ) (rows : List (List ℕ)) (k : ℕ) → length rows ≡ length ids → k < length ids → get_or (zip ids rows) k (0, []) ≡ (get_or ids k 0, get_or rows k [])
get_zip [] rows k same lt = absurd (omega arith)
get_zip (id ∷ ids) [] k same lt = absurd (omega arith)
get_zip (id ∷ ids) (row ∷ rows) zero same lt = refl
get_zip (id ∷ ids) (row ∷ rows) (suc k) same lt = get_zip ids rows k (omega arith) (omega arith)

abbrev row_in : (ℕ → Bool) → ℕ → ℕ × List ℕ → Type 0
row_in held bound e = IsRowIn held bound e.0 e.1

pub rows_listed : (held : ℕ → Bool) (bound : ℕ) (ids : List ℕ) (rows : List (List ℕ)) → length rows ≡ length ids → AreRows held bound ids (length rows) rows → AreRowsOf held bound (zip ids rows)
rows_listed held bound ids rows same are =
    All-from_get_or (row_in held bound) (zip ids rows) (0, []) (λ k lt.
    let below : k < length ids = subst (λ n. k < n) (length-zip ids rows same) lt in
    subst (row_in held bound) (sym (get_zip ids rows k same below)) (are k (subst (λ n. k < n) (sym same) below)))

pub rows_counted : (held : ℕ → Bool) (bound n : ℕ) (rows : List (List ℕ)) → length rows ≡ n → AreRows held bound (range_with_len 0 n) (length rows) rows → AreRowsOf held bound (enumerate_from 0 rows)
rows_counted held bound n rows same are =
    All-from_get_or (row_in held bound) (enumerate_from 0 rows) (0, []) (λ k lt.
    let below : k < length rows = subst (λ m. k < m) (length-enumerate_from 0 rows) lt in
    let own : get_or (range_with_len 0 n) k 0 ≡ 0 + k = get_or-range_with_len 0 n k 0 (subst (λ m. k < m) same below) in
    subst (row_in held bound) (sym (get_or-enumerate_from 0 rows k (0, []) below)) (subst (λ id. IsRowIn held bound id (get_or rows k [])) own (are k below)))

pub further : (start degree : ℕ) (below : ℕ → Bool) (ids : List ℕ) (rows : List (List ℕ)) → 1 ≤ length ids → AreMembers below (length ids) ids → has ids start ≡ true → length rows ≡ length ids
    → AreRows (λ id. has ids id) degree ids (length rows) rows → IsFurtherLayer start degree below (zip ids rows)
further start degree below ids rows some members begins same are =
    let listed : layer_ids (zip ids rows) ≡ ids = ids_zip ids rows same in
    record {
      some = subst (λ n. 1 ≤ n) (sym (length-zip ids rows same)) some;
      ascend = subst Ascends (sym listed) members.ascend;
      inside = subst (All (λ v. below v ≡ true)) (sym listed) (All-from_get_or (λ v. below v ≡ true) ids 0 members.inside);
      has_start = subst (λ xs. has xs start ≡ true) (sym listed) begins;
      rows = subst (λ xs. AreRowsOf (λ v. has xs v) degree (zip ids rows)) (sym listed) (rows_listed (λ v. has ids v) degree ids rows same are);
    }

-- what is said of a layer's parts, said of the layer
pub parts_of : (ids : List ℕ) (rows : List (List ℕ)) (layer : List (ℕ × List ℕ)) → length rows ≡ length ids → layer ≡ zip ids rows → (ids ≡ layer_ids layer) × (rows ≡ layer_rows layer)
parts_of ids rows layer same is = (
  sym (ids_zip ids rows same) ∙ ap (λ (l : List (ℕ × List ℕ)). layer_ids l) (sym is),
  sym (rows_zip ids rows same) ∙ ap (λ (l : List (ℕ × List ℕ)). layer_rows l) (sym is),
)
