-- What putting the rows that differ into a layer gives.
use Rattle.std.proofs.Common.{◌≡◌, ◌≢◌, ℕ, suc, ◌+◌, ◌<◌, ◌≤◌, Bool, true, false, cond, not, List, [], ◌∷◌, map, set, length, get_or, refl, sym, ap, ◌∙◌, subst, inl, inr, arith}
use Rattle.std.specs.Prelude.{◌==◌, ◌⊎◌, if◌then◌else◌}
use Rattle.std.specs.List.{filter, range_with_len}
use Rattle.std.proofs.lemmas.Bool.{true≢false, eqb-true, eqb-false, eq-eqb, ne_eqb, le-leb}
use Rattle.ann_defs.specs.Graph.{has}
use Rattle.ann_defs.specs.Ordered.{Has, Ascends, ordered}
use Rattle.ann_defs.specs.BatchInsert.{row_then}
use Rattle.ann_defs.proofs.Members.{Once, has_true, true_has, both_and}
use Rattle.graph_rows.specs.Index.{layer_ids, layer_rows}
use Rattle.graph_rows.specs.Layers.{place_in, layer_row}
use Rattle.graph_rows.proofs.LayerRowFacts.{layered}
use Rattle.batch_insert.specs.Batch.{IsBatch}
use Rattle.batch_insert.specs.Changes.{differing, put_in_layer, put_all_in_layer}
use Rattle.batch_insert.specs.Proposed.{proposed}
use Rattle.batch_insert.specs.Proposing.{pair_cmp, targets_of}
use Rattle.batch_insert.proofs.Ascending.{rises, in_range_has}
use Rattle.batch_insert.proofs.Differing.{differs, entry, same_row, row_same}
use Rattle.batch_insert.proofs.MergeFacts.{rises_once, targets_right, last_of_other}

-- the entries of these ids with these rows
abbrev pub rows_of_ids : (ℕ → List ℕ) → List ℕ → List (ℕ × List ℕ)
rows_of_ids row ids = map (entry row) ids

same_rows : (f g : ℕ → List ℕ) (ids : List ℕ) → ((u : ℕ) → Has ids u → f u ≡ g u) → rows_of_ids f ids ≡ rows_of_ids g ids
same_rows f g [] same = refl
same_rows f g (x ∷ ids) same =
    let first = same x (inl refl) in
    let rest = same_rows f g ids (λ u h. same u (inr h)) in
    λ i. (x, first i) ∷ rest i

-- where an id stands among others
place_first : (x u : ℕ) (ids : List ℕ) → (x == u) ≡ true → place_in (x ∷ ids) u ≡ 0
place_first x u ids e = ap (λ b. cond (not b) (1 + place_in ids u) 0) e

place_after : (x u : ℕ) (ids : List ℕ) → (x == u) ≡ false → place_in (x ∷ ids) u ≡ suc (place_in ids u)
place_after x u ids e = ap (λ b. cond (not b) (1 + place_in ids u) 0) e ∙ omega arith

-- entries whose ids stand once are their ids with their rows
entries_by_row : (width : ℕ) (row : ℕ → List ℕ) (entries : List (ℕ × List ℕ)) → Once (layer_ids entries)
    → ((u : ℕ) → Has (layer_ids entries) u → layer_row (layered width entries) u ≡ row u) → entries ≡ rows_of_ids row (layer_ids entries)
entries_by_row width row [] once are = refl
entries_by_row width row (e ∷ entries) once are =
    let ids = layer_ids entries in
    let rows = layer_rows entries in
    let here : e.1 ≡ row e.0 = sym (ap (λ k. get_or (e.1 ∷ rows) k []) (place_first e.0 e.0 ids (eq-eqb e.0 e.0 refl))) ∙ are e.0 (inl refl) in
    let rest = entries_by_row width row entries once.1 (λ u h.
    sym (ap (λ k. get_or (e.1 ∷ rows) k []) (place_after e.0 u ids (ne_eqb e.0 u (λ same. once.0 (subst (Has ids) (sym same) h))))) ∙ are u (inr h)) in
    λ i. (e.0, here i) ∷ rest i

-- one row more
set_row : (f g : ℕ → List ℕ) (ids : List ℕ) (u : ℕ) → Once ids → Has ids u → ((v : ℕ) → u ≢ v → f v ≡ g v) → set (rows_of_ids f ids) (place_in ids u) (u, g u) ≡ rows_of_ids g ids
set_row f g [] u once h others = absurd h
set_row f g (x ∷ ids) u once h others =
    elim (x == u) as (λ b. (x == u) ≡ b → set (rows_of_ids f (x ∷ ids)) (place_in (x ∷ ids) u) (u, g u) ≡ rows_of_ids g (x ∷ ids)) [
      | true ↦ λ t.
          let same : u ≡ x = sym (eqb-true x u t) in
          let rest = same_rows f g ids (λ v m. others v (λ e. once.0 (subst (Has ids) (sym e ∙ same) m))) in
          ap (λ k. set (rows_of_ids f (x ∷ ids)) k (u, g u)) (place_first x u ids t) ∙ (λ i. (same i, g (same i)) ∷ rest i)
      | false ↦ λ t.
          let apart = eqb-false x u t in
          let inner : Has ids u = elim h as (λ _. Has ids u) [ inl e ↦ absurd (apart e) | inr m ↦ m ] in
          let first : f x ≡ g x = others x (λ e. apart (sym e)) in
          let rest = set_row f g ids u once.1 inner others in
          ap (λ k. set (rows_of_ids f (x ∷ ids)) k (u, g u)) (place_after x u ids t) ∙ (λ i. (x, first i) ∷ rest i)
    ] refl

module _ (width : ℕ) (old new : ℕ → List ℕ) (ids : List ℕ) (once : Once ids) (fits : (u : ℕ) → Has ids u → length (new u) ≤ width) where
  -- whether a row is new already, or is going to be put
  abbrev IsNewOrPut : List ℕ → (ℕ → List ℕ) → Type 0
  IsNewOrPut us row = (u : ℕ) → Has ids u → (row u ≡ new u) ⊎ (Has us u × (differs old new u ≡ true))

  abbrev with_new : (ℕ → List ℕ) → ℕ → ℕ → List ℕ
  with_new row u v = if u == v then new v else row v

  put_one : (row : ℕ → List ℕ) (u : ℕ) → Has ids u → put_in_layer (layered width (rows_of_ids row ids)) (u, new u) ≡ layered width (rows_of_ids (with_new row u) ids)
  put_one row u h =
      let l = layered width (rows_of_ids row ids) in
      let same : layer_ids (rows_of_ids row ids) ≡ ids = ids_again row ids in
      let held : has (layer_ids (rows_of_ids row ids)) u ≡ true = ap (λ xs. has xs u) same ∙ true_has ids u h in
      let short = le-leb (length (new u)) width (fits u h) in
      let here : with_new row u u ≡ new u = ap (λ b. cond b (new u) (row u)) (eq-eqb u u refl) in
      ap (λ b. cond b (layered width (set (rows_of_ids row ids) (place_in (layer_ids (rows_of_ids row ids)) u) (u, new u))) l) (both_and _ _ held short)
      ∙ ap (λ xs. layered width (set (rows_of_ids row ids) (place_in xs u) (u, new u))) same
      ∙ ap (λ (r : List ℕ). layered width (set (rows_of_ids row ids) (place_in ids u) (u, r))) (sym here)
      ∙ ap (layered width) (set_row row (with_new row u) ids u once h (λ v apart. sym (ap (λ b. cond b (new v) (row v)) (ne_eqb u v apart))))
    where
      ids_again : (row : ℕ → List ℕ) (ids : List ℕ) → layer_ids (rows_of_ids row ids) ≡ ids
      ids_again row [] = refl
      ids_again row (x ∷ ids) = ap (λ xs. x ∷ xs) (ids_again row ids)

  put_each : (us : List ℕ) (row : ℕ → List ℕ) → ((u : ℕ) → Has us u → differs old new u ≡ true → Has ids u) → IsNewOrPut us row
      → put_all_in_layer (layered width (rows_of_ids row ids)) (differing old new us) ≡ layered width (rows_of_ids new ids)
  put_each [] row held are = ap (layered width) (same_rows row new ids (λ u h. elim (are u h) as (λ _. row u ≡ new u) [ inl e ↦ e | inr m ↦ absurd m.0 ]))
  put_each (x ∷ us) row held are =
      elim (differs old new x) as (λ b. differs old new x ≡ b → put_all_in_layer (layered width (rows_of_ids row ids)) (map (entry new) (cond b (x ∷ filter (differs old new) us) (filter (differs old new) us))) ≡ layered width (rows_of_ids new ids)) [
        | true ↦ λ t.
            ap (λ l. put_all_in_layer l (differing old new us)) (put_one row x (held x (inl refl) t))
            ∙ put_each us (with_new row x) (λ u h. held u (inr h)) (λ u h.
            elim (x == u) as (λ b. (x == u) ≡ b → (cond b (new u) (row u) ≡ new u) ⊎ (Has us u × (differs old new u ≡ true))) [
              | true ↦ λ _. inl refl
              | false ↦ λ apart. elim (are u h) as (λ _. (row u ≡ new u) ⊎ (Has us u × (differs old new u ≡ true))) [
                | inl e ↦ inl e
                | inr m ↦ elim m.0 as (λ _. (row u ≡ new u) ⊎ (Has us u × (differs old new u ≡ true))) [ inl e ↦ absurd (eqb-false x u apart e) | inr k ↦ inr (k, m.1) ]
              ]
            ] refl)
        | false ↦ λ f.
            put_each us row (λ u h. held u (inr h)) (λ u h.
            elim (are u h) as (λ _. (row u ≡ new u) ⊎ (Has us u × (differs old new u ≡ true))) [
              | inl e ↦ inl e
              | inr m ↦ elim m.0 as (λ _. (row u ≡ new u) ⊎ (Has us u × (differs old new u ≡ true))) [
                | inl e ↦ absurd (true≢false (sym m.1 ∙ ap (differs old new) (sym e) ∙ f))
                | inr k ↦ inr (k, m.1)
              ]
            ])
      ] refl

-- Putting the rows that differ into a layer gives each of its ids the new row, where the layer's rows are the old ones,
-- its ids are below n, a row of any other id doesn't differ, and each new row fits.
pub put_differing_in_layer : (n width : ℕ) (old new : ℕ → List ℕ) (entries : List (ℕ × List ℕ)) → Ascends (layer_ids entries)
    → ((u : ℕ) → has (layer_ids entries) u ≡ true → u < n)
    → ((u : ℕ) → has (layer_ids entries) u ≡ true → layer_row (layered width entries) u ≡ old u)
    → ((u : ℕ) → has (layer_ids entries) u ≡ false → new u ≡ old u)
    → ((u : ℕ) → has (layer_ids entries) u ≡ true → length (new u) ≤ width)
    → put_all_in_layer (layered width entries) (differing old new (range_with_len 0 n)) ≡ layered width (map (λ id. (id, new id)) (layer_ids entries))
put_differing_in_layer n width old new entries up below are others fits =
    let ids = layer_ids entries in
    let once : Once ids = rises_once ids (rises ids up) in
    let listed : (u : ℕ) → Has ids u → has ids u ≡ true = true_has ids in
    let rows : entries ≡ rows_of_ids old ids = entries_by_row width old entries once (λ u h. are u (listed u h)) in
    ap (λ es. put_all_in_layer (layered width es) (differing old new (range_with_len 0 n))) rows
    ∙ put_each width old new ids once (λ u h. fits u (listed u h)) (range_with_len 0 n) old
    (λ u _ t. elim (has ids u) as (λ b. has ids u ≡ b → Has ids u) [
      | true ↦ λ h. has_true ids u h
      | false ↦ λ h. absurd (true≢false (sym t ∙ row_same old new u (others u h)))
    ] refl)
    (λ u h. elim (differs old new u) as (λ b. differs old new u ≡ b → (old u ≡ new u) ⊎ (Has (range_with_len 0 n) u × (differs old new u ≡ true))) [
      | true ↦ λ t. inr (in_range_has 0 n u (omega arith) (let less = below u (listed u h) in omega (arith, less)), t)
      | false ↦ λ f. inl (sym (same_row old new u f))
    ] refl)

-- a batch leaves the row of an id that isn't held
pub unheld_stays : (n bound : ℕ) (held : ℕ → Bool) (old : ℕ → List ℕ) (batch : ℕ → Bool) (fresh : ℕ → List ℕ) (ids : List ℕ) (merged : ℕ → List ℕ → List ℕ → List ℕ)
    → IsBatch n bound held old batch fresh ids → (u : ℕ) → held u ≡ false → row_then n old fresh batch merged u ≡ old u
unheld_stays n bound held old batch fresh ids merged fits u free =
    let targets = targets_of (ordered pair_cmp (proposed fresh ids)) in
    let no_target : has targets u ≡ false = elim (has targets u) as (λ b. has targets u ≡ b → b ≡ false) [
      | true ↦ λ h. absurd (true≢false (sym ((targets_right n bound held old batch fresh ids fits merged).held_all u (has_true targets u h)) ∙ free))
      | false ↦ λ _. refl
    ] refl in
    let outside : batch u ≡ false = elim (batch u) as (λ b. batch u ≡ b → b ≡ false) [ true ↦ λ h. absurd (true≢false (sym (fits.batch_held u h) ∙ free)) | false ↦ λ _. refl ] refl in
    sym (last_of_other n bound held old batch fresh ids fits merged u no_target) ∙ ap (λ b. cond b (fresh u) (old u)) outside

-- so the rows that a batch changes in a layer, put into it, give each of its ids the row after the batch
pub put_batch_in_layer : (n bound width : ℕ) (entries : List (ℕ × List ℕ)) (batch : ℕ → Bool) (fresh : ℕ → List ℕ) (ids : List ℕ) (merged : ℕ → List ℕ → List ℕ → List ℕ) → Ascends (layer_ids entries)
    → IsBatch n bound (has (layer_ids entries)) (layer_row (layered width entries)) batch fresh ids
    → ((u : ℕ) → has (layer_ids entries) u ≡ true → length (row_then n (layer_row (layered width entries)) fresh batch merged u) ≤ width)
    → put_all_in_layer (layered width entries) (differing (layer_row (layered width entries)) (row_then n (layer_row (layered width entries)) fresh batch merged) (range_with_len 0 n))
    ≡ layered width (map (λ id. (id, row_then n (layer_row (layered width entries)) fresh batch merged id)) (layer_ids entries))
put_batch_in_layer n bound width entries batch fresh ids merged up fits short =
    let old = layer_row (layered width entries) in
    put_differing_in_layer n width old (row_then n old fresh batch merged) entries up fits.below (λ u _. refl)
    (unheld_stays n bound (has (layer_ids entries)) old batch fresh ids merged fits) short
