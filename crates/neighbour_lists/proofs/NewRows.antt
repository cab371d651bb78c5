-- Rows where those of some ids are new ones.
use Rattle.std.proofs.Common.{◌≡◌, ℕ, ◌<◌, Bool, true, false, cond, List, [], ◌∷◌, ◌++◌, set, length, refl, sym, ap, ◌∙◌, subst, inl, inr, arith, length-set}
use Rattle.std.specs.Prelude.{◌==◌, ◌||◌}
use Rattle.std.proofs.lemmas.Bool.{cases_eq, eq-eqb, ne_eqb, or_right}
use Rattle.std.proofs.lemmas.List.{get_or-set_same, get_or-set_other}
use Rattle.std.proofs.lemmas.List.FromFn.{length-map-range_with_len, get_or-map-range_with_len, fill_by_all}
use Rattle.ann_defs.specs.Graph.{has, row_in}
use Rattle.neighbour_lists.specs.WrittenRows.{with_rows}

has-append : (xs ys : List ℕ) (u : ℕ) → has (xs ++ ys) u ≡ (has xs u || has ys u)
has-append [] ys u = refl
has-append (x ∷ xs) ys u = elim (x == u) as (λ b. (b || has (xs ++ ys) u) ≡ ((b || has xs u) || has ys u)) [ true ↦ refl | false ↦ has-append xs ys u ]

module _ (row : ℕ → List ℕ) (rows : List (List ℕ)) where
  abbrev new : List ℕ → ℕ → List ℕ
  new ids v = cond (has ids v) (row v) (row_in rows v)

  pub length-with_rows : (ids : List ℕ) → length (with_rows row ids rows) ≡ length rows
  length-with_rows ids = length-map-range_with_len (new ids) 0 (length rows)

  pub row_with : (ids : List ℕ) (v : ℕ) → v < length rows → row_in (with_rows row ids rows) v ≡ new ids v
  row_with ids v lt = get_or-map-range_with_len (new ids) 0 (length rows) v v [] lt (omega arith)

  -- no row is new
  pub with_none : rows ≡ with_rows row [] rows
  with_none = fill_by_all (new []) rows (length rows) [] refl (λ k lt. refl)

  -- one more is
  pub with_more : (ids : List ℕ) (v : ℕ) → v < length rows → set (with_rows row ids rows) v (row v) ≡ with_rows row (ids ++ v ∷ []) rows
  with_more ids v lt =
      fill_by_all (new (ids ++ v ∷ [])) (set (with_rows row ids rows) v (row v)) (length rows) []
      (length-set (with_rows row ids rows) v (row v) ∙ length-with_rows ids)
      (λ k within. elim (cases_eq k v) as (λ _. row_in (set (with_rows row ids rows) v (row v)) k ≡ new (ids ++ v ∷ []) k) [
        | inl e ↦
            let long = length-with_rows ids in
            let here : row_in (set (with_rows row ids rows) v (row v)) v ≡ row v = get_or-set_same (with_rows row ids rows) v (row v) [] (omega (arith, long, lt)) in
            let listed : has (ids ++ v ∷ []) v ≡ true = has-append ids (v ∷ []) v ∙ or_right (has ids v) ((v == v) || false) (ap (λ b. b || false) (eq-eqb v v refl)) in
            subst (λ m. row_in (set (with_rows row ids rows) v (row v)) m ≡ new (ids ++ v ∷ []) m) (sym e) (here ∙ sym (ap (λ b. cond b (row v) (row_in rows v)) listed))
        | inr ne ↦
            let same : has (ids ++ v ∷ []) k ≡ has ids k = has-append ids (v ∷ []) k ∙ ap (λ b. has ids k || (b || false)) (ne_eqb v k (λ e. ne (sym e))) ∙ or-false (has ids k) in
            get_or-set_other (with_rows row ids rows) v k (row v) [] ne
            ∙ row_with ids k within
            ∙ sym (ap (λ b. cond b (row k) (row_in rows k)) same)
      ])
    where
      or-false : (b : Bool) → (b || false) ≡ b
      or-false true = refl
      or-false false = refl

-- those of some ids, and then those of others
pub with_both : (row : ℕ → List ℕ) (rows : List (List ℕ)) (xs ys : List ℕ) → with_rows row ys (with_rows row xs rows) ≡ with_rows row (xs ++ ys) rows
with_both row rows xs ys =
    fill_by_all (new row rows (xs ++ ys)) (with_rows row ys (with_rows row xs rows)) (length rows) []
    (length-with_rows row (with_rows row xs rows) ys ∙ length-with_rows row rows xs)
    (λ k lt.
    let long = length-with_rows row rows xs in
    row_with row (with_rows row xs rows) ys k (omega (arith, long, lt))
    ∙ ap (cond (has ys k) (row k)) (row_with row rows xs k lt)
    ∙ choice (has xs k) (has ys k) (row k) (row_in rows k)
    ∙ ap (λ b. cond b (row k) (row_in rows k)) (sym (has-append xs ys k)))
  where
    choice : (a b : Bool) (r s : List ℕ) → cond b r (cond a r s) ≡ cond (a || b) r s
    choice true true r s = refl
    choice true false r s = refl
    choice false b r s = refl
