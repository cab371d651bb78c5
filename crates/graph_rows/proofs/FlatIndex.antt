-- An index with one layer of good rows is well formed, and layer 0 of a well-formed index has good rows.
use Rattle.std.proofs.Common.{◌≡◌, ℕ, ◌<◌, ◌≤◌, true, List, [], length, get_or, refl, sym, ap, subst, ◌∙◌, inl, inr, arith, lit≤}
use Rattle.std.specs.Prelude.{nat_lt, ◌⊎◌}
use Rattle.std.specs.List.{range_with_len, enumerate_from}
use Rattle.std.proofs.lemmas.Bool.{lt-ltb, ltb-true}
use Rattle.std.proofs.lemmas.List.{length-map, get_or-map}
use Rattle.std.proofs.lemmas.List.Elements.{All-weaker, All-from_get_or, All-get_or}
use Rattle.std.proofs.lemmas.List.FromFn.{length-range_with_len, get_or-range_with_len, length-enumerate_from, get_or-enumerate_from}
use Rattle.ann_defs.specs.Graph.{IsGoodRow, AreGoodRows}
use Rattle.graph_rows.specs.Index.{Contents, layer_rows, flat_contents}
use Rattle.graph_rows.specs.WellFormed.{layers_fit, base_bound, base_of, IsRowIn, AreRowsOf, IsWellFormed}
use Rattle.graph_rows.proofs.LayerLists.{ids_enumerate}

module _ (n bound u : ℕ) (row : List ℕ) where
  pub row_of_good : IsGoodRow n bound u row → IsRowIn (λ v. nat_lt v n) bound u row
  row_of_good good = record {
    inside = All-weaker (λ v. v < n) (λ v. nat_lt v n ≡ true) (λ v lt. lt-ltb v n lt) row good.inside;
    distinct = good.distinct;
    others = good.others;
    short = good.short;
  }

  pub good_of_row : IsRowIn (λ v. nat_lt v n) bound u row → IsGoodRow n bound u row
  good_of_row is = record {
    inside = All-weaker (λ v. nat_lt v n ≡ true) (λ v. v < n) (λ v h. ltb-true v n h) row is.inside;
    distinct = is.distinct;
    others = is.others;
    short = is.short;
  }

abbrev row_in : ℕ → ℕ → ℕ × List ℕ → Type 0
row_in n bound e = IsRowIn (λ v. nat_lt v n) bound e.0 e.1

pub flat_rows : (n bound : ℕ) (rows : List (List ℕ)) → AreGoodRows n bound rows → AreRowsOf (λ v. nat_lt v n) bound (enumerate_from 0 rows)
flat_rows n bound rows good =
    All-from_get_or (row_in n bound) (enumerate_from 0 rows) (0, []) (λ i lt.
    let below : i < length rows = subst (λ k. i < k) (length-enumerate_from 0 rows) lt in
    let here : get_or (enumerate_from 0 rows) i (0, []) ≡ (i, get_or rows i []) = get_or-enumerate_from 0 rows i (0, []) below ∙ ap (λ k. (k, get_or rows i [])) (omega arith) in
    subst (row_in n bound) (sym here) (row_of_good n bound i (get_or rows i []) (good.good i (subst (λ k. i < k) good.count below))))

flat_kind : (kind degree : ℕ) → (kind ≡ 1) ⊎ (kind ≡ 3) → (1 ≤ kind) × (kind ≤ 3) × (layers_fit kind 1 ≡ true) × (base_bound kind degree ≡ degree)
flat_kind kind degree which = elim which as (λ _. (1 ≤ kind) × (kind ≤ 3) × (layers_fit kind 1 ≡ true) × (base_bound kind degree ≡ degree)) [
  | inl e ↦ subst (λ k. (1 ≤ k) × (k ≤ 3) × (layers_fit k 1 ≡ true) × (base_bound k degree ≡ degree)) (sym e) (lit≤ tt, lit≤ tt, refl, refl)
  | inr e ↦ subst (λ k. (1 ≤ k) × (k ≤ 3) × (layers_fit k 1 ≡ true) × (base_bound k degree ≡ degree)) (sym e) (lit≤ tt, lit≤ tt, refl, refl)
]

-- an index of kind 1 or 3 made of good rows
pub flat_well_formed : (kind n dim degree start : ℕ) (rows : List (List ℕ)) → AreGoodRows n degree rows → 1 ≤ n → n ≤ 4194304 → 1 ≤ dim → dim ≤ 2048 → 1 ≤ degree → degree ≤ 128 → start < n
    → (kind ≡ 1) ⊎ (kind ≡ 3) → IsWellFormed (flat_contents kind n dim degree start rows)
flat_well_formed kind n dim degree start rows good some count wide narrow wants few below which =
    let k = flat_kind kind degree which in
    record {
      kind = (k.0, k.1);
      count = (some, omega arith);
      dim = (wide, omega arith);
      degree = (wants, omega arith);
      start = below;
      layers = k.2;
      base = ids_enumerate 0 rows ∙ ap (range_with_len 0) good.count;
      rows = flat_rows n (base_bound kind degree) rows (subst (λ b. AreGoodRows n b rows) (sym k.3) good);
      upper = tt;
      stamp = tt;
    }

-- the rows of layer 0, as a search and a prune want them
pub base_good : (i : Contents) → IsWellFormed i → AreGoodRows i.count (base_bound i.kind i.degree) (layer_rows (base_of i))
base_good i is =
    let base = base_of i in
    let bound = base_bound i.kind i.degree in
    let many : length base ≡ i.count = sym (length-map base (λ (e : ℕ × List ℕ). e.0)) ∙ ap length is.base ∙ length-range_with_len 0 i.count in
    record {
      count = length-map base (λ (e : ℕ × List ℕ). e.1) ∙ many;
      good = λ u lt.
          let at : u < length base = subst (λ k. u < k) (sym many) lt in
          let e : ℕ × List ℕ = get_or base u (0, []) in
          let own : e.0 ≡ u = sym (get_or-map (λ (x : ℕ × List ℕ). x.0) base u (0, []) 0 at) ∙ ap (λ ids. get_or ids u 0) is.base ∙ get_or-range_with_len 0 i.count u 0 lt ∙ omega arith in
          let here : get_or (layer_rows base) u [] ≡ e.1 = get_or-map (λ (x : ℕ × List ℕ). x.1) base u (0, []) [] at in
          let row : row_in i.count bound e = All-get_or (row_in i.count bound) base u (0, []) at is.rows in
          subst (λ r. IsGoodRow i.count bound u r) (sym here) (subst (λ k. IsGoodRow i.count bound k e.1) own (good_of_row i.count bound e.0 e.1 row));
    }
