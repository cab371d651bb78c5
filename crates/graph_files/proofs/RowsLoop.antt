-- Rows, one after another.
use Rattle.std.proofs.Common.{◌≡◌, ◌≢◌, inl, inr, ℕ, ◌+◌, ◌<◌, ◌≤◌, Bool, List, [], ◌∷◌, ◌++◌, length, drop, get_or, set, Result, Ok, refl, sym, ap, subst, ◌∙◌, arith, add-one, drop-cons, length-drop, get_or-set_same, get_or-set_other}
use Rattle.std.proofs.lemmas.Bool.{cases_order}
use Rattle.std.proofs.lemmas.List.{nil_from_length}
use Rattle.graph_files.specs.declared.fault.IndexFault.{IndexFault}
use Rattle.graph_files.specs.Grammar.{◌>>=◌, row_at, rows_at, row_size}
use Rattle.graph_rows.specs.Members.{AreRows}
use Rattle.graph_files.specs.Reading.{Fails}
use Rattle.graph_rows.specs.WellFormed.{IsRowIn}
use Rattle.graph_files.proofs.RowLoop.{fails_before, fails_along}

module _ (held : ℕ → Bool) (bound : ℕ) (file : List ℕ) where
  next_own : (own : List ℕ) (i id : ℕ) → i < length own → id ≡ get_or own i 0 → drop i own ≡ id ∷ drop (i + 1) own
  next_own own i id lt is = drop-cons own i 0 lt ∙ rw (add-one, is) refl

  pub rows_on : (own : List ℕ) (i at next id : ℕ) (row : List ℕ) (rows : List (List ℕ)) (total : Result (List (List ℕ) × ℕ) IndexFault) → i < length own → id ≡ get_or own i 0 → next ≡ at + row_size row
      → row_at held bound id file at ≡ Ok row → rows_at held bound file (drop i own) at rows ≡ total → rows_at held bound file (drop (i + 1) own) next (rows ++ row ∷ []) ≡ total
  unfolding rows_at
  rows_on own i at next id row rows total lt is place step so_far =
      let one : rows_at held bound file (drop i own) at rows ≡ rows_at held bound file (drop (i + 1) own) (at + row_size row) (rows ++ row ∷ []) = rw (next_own own i id lt is, step) refl in
      ap (λ p. rows_at held bound file (drop (i + 1) own) p (rows ++ row ∷ [])) place ∙ sym one ∙ so_far

  pub rows_broken : (fault : IndexFault) (own : List ℕ) (i at id : ℕ) (rows : List (List ℕ)) (total : Result (List (List ℕ) × ℕ) IndexFault) → i < length own → id ≡ get_or own i 0
      → Fails fault (row_at held bound id file at) → rows_at held bound file (drop i own) at rows ≡ total → Fails fault total
  unfolding rows_at
  rows_broken fault own i at id rows total lt is broken so_far =
      let F : List ℕ → Result (List (List ℕ) × ℕ) IndexFault = λ row. rows_at held bound file (drop (i + 1) own) (at + row_size row) (rows ++ row ∷ []) in
      let one : (row_at held bound id file at >>= F) ≡ rows_at held bound file (drop i own) at rows = rw (next_own own i id lt is) refl in
      fails_along fault _ total (one ∙ so_far) (fails_before fault (row_at held bound id file at) F broken)

  pub rows_done : (own : List ℕ) (i at : ℕ) (rows : List (List ℕ)) (total : Result (List (List ℕ) × ℕ) IndexFault) → length own ≤ i → rows_at held bound file (drop i own) at rows ≡ total → total ≡ Ok (rows, at)
  unfolding rows_at
  rows_done own i at rows total le so_far =
      let none : drop i own ≡ [] = nil_from_length (drop i own) (omega (arith, length-drop i own)) in
      let one : rows_at held bound file (drop i own) at rows ≡ Ok (rows, at) = rw none refl in
      sym so_far ∙ one

  pub rows_sound : (own : List ℕ) (i : ℕ) (row : List ℕ) (rows : List (List ℕ)) → i < length rows → IsRowIn held bound (get_or own i 0) row → AreRows held bound own i rows → AreRows held bound own (i + 1) (set rows i row)
  rows_sound own i row rows lt here before k below = elim (cases_order k i) as (λ _. IsRowIn held bound (get_or own k 0) (get_or (set rows i row) k [])) [
    | inl same ↦ subst (λ j. IsRowIn held bound (get_or own j 0) (get_or (set rows i row) j [])) (sym same) (subst (IsRowIn held bound (get_or own i 0)) (sym (get_or-set_same rows i row [] lt)) here)
    | inr other ↦ elim other as (λ _. IsRowIn held bound (get_or own k 0) (get_or (set rows i row) k [])) [
      | inl less ↦
          let apart : k ≢ i = omega arith in
          subst (IsRowIn held bound (get_or own k 0)) (sym (get_or-set_other rows i k row [] apart)) (before k less)
      | inr more ↦ absurd (omega arith)
    ]
  ]
