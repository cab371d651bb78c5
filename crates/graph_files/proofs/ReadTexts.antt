-- What was read from a file of bytes is what stands there.
use Rattle.std.proofs.Common.{◌≡◌, ℕ, zero, suc, ◌+◌, ◌*◌, ◌≤◌, Bool, true, false, cond, nat_lt, List, [], ◌∷◌, ◌++◌, length, drop, Option, Some, None, Result, Ok, Err, refl, sym, ap, subst, ◌∙◌, arith, append_assoc, length-drop}
use Rattle.std.specs.List.{flat_map, zip}
use Rattle.std.proofs.lemmas.Bool.{ltb-false}
use Rattle.std.proofs.lemmas.List.{append-nil, drop-drop, take-append-drop}
use Rattle.bin_files.specs.Points.{u32_at}
use Rattle.bin_files.proofs.Spelled.{four}
use Rattle.bin_files.proofs.Turned.{AreBytes}
use Rattle.ann_defs.specs.Graph.{has}
use Rattle.graph_files.specs.declared.fault.IndexFault.{IndexFault}
use Rattle.graph_files.specs.Grammar.{◌>>=◌, unless, word_at, id_fault, ids_at, row_at, row_size, rows_at, layer_id_fault, layer_ids_at, members_fault, start_fault, layer_at, layers_at}
use Rattle.graph_rows.specs.Index.{word, words, row_bytes, rows_bytes, layer_ids, layer_rows, layer_bytes}
use Rattle.graph_rows.specs.WellFormed.{layer_words}
use Rattle.graph_rows.proofs.LayerLists.{ids_zip, rows_zip, length-zip}

pub bind_ok : {A B : Type 0} (r : Result A IndexFault) (f : A → Result B IndexFault) (y : B) → (r >>= f) ≡ Ok y → (x : A) × (r ≡ Ok x) × (f x ≡ Ok y)
bind_ok (Ok x) f y e = (x, refl, e)
bind_ok (Err fault) f y e = absurd cc

pub unless_ok : {B : Type 0} (o : Option IndexFault) (step : Result B IndexFault) (y : B) → unless o step ≡ Ok y → (o ≡ None) × (step ≡ Ok y)
unless_ok (Some fault) step y e = absurd cc
unless_ok None step y e = (refl, e)

pub cond_ok : {B : Type 0} (b : Bool) (fault : IndexFault) (step : Result B IndexFault) (y : B) → cond b (Err fault) step ≡ Ok y → (b ≡ false) × (step ≡ Ok y)
cond_ok true fault step y e = absurd cc
cond_ok false fault step y e = (refl, e)

pub ok_same : {B : Type 0} (x y : B) → ◌≡◌ {A = Result B IndexFault} (Ok x) (Ok y) → x ≡ y
ok_same x y e = cc

pub word_there : (file : List ℕ) (at : ℕ) → at + 4 ≤ length file → AreBytes file → drop at file ≡ word (u32_at file at) ++ drop (at + 4) file
word_there file at fits are =
    sym (take-append-drop 4 (drop at file)) ∙ ap (λ xs. xs ++ drop 4 (drop at file)) (four file at fits are) ∙ ap (λ xs. word (u32_at file at) ++ xs) (drop-drop 4 at file)

pub word_told : (file : List ℕ) (at n : ℕ) → AreBytes file → word_at file at ≡ Ok n → drop at file ≡ word n ++ drop (at + 4) file
word_told file at n are e =
    let c = cond_ok (nat_lt (length (drop at file)) 4) _ (Ok (u32_at file at)) n e in
    let long : 4 ≤ length (drop at file) = ltb-false (length (drop at file)) 4 c.0 in
    let fits : at + 4 ≤ length file = omega (arith, length-drop at file) in
    word_there file at fits are ∙ ap (λ k. word k ++ drop (at + 4) file) (ok_same (u32_at file at) n c.1)

-- two pieces one after another
joined : (file a b : List ℕ) (at mid to next : ℕ) → drop at file ≡ a ++ drop mid file → drop mid file ≡ b ++ drop to file → to ≡ next → drop at file ≡ (a ++ b) ++ drop next file
joined file a b at mid to next first second is =
    first ∙ ap (λ xs. a ++ xs) (second ∙ ap (λ k. b ++ drop k file) is) ∙ sym (append_assoc a b (drop next file))

nothing_there : (file : List ℕ) (at to : ℕ) → at ≡ to → drop at file ≡ [] ++ drop to file
nothing_there file at to is = ap (λ k. drop k file) is

module _ (file : List ℕ) (are : AreBytes file) where
  pub ids_told : (held : ℕ → Bool) (own more at : ℕ) (ids all : List ℕ) → ids_at held own file more at ids ≡ Ok all
      → (news : List ℕ) × (all ≡ ids ++ news) × (length news ≡ more) × (drop at file ≡ words news ++ drop (at + 4 * more) file)
  unfolding ids_at
  ids_told held own zero at ids all e = ([], sym (ok_same ids all e) ∙ sym (append-nil ids), refl, nothing_there file at (at + 4 * 0) (omega arith))
  ids_told held own (suc more) at ids all e =
      let b = bind_ok (word_at file at) (λ id. unless (id_fault held own at ids id) (ids_at held own file more (at + 4) (ids ++ id ∷ []))) all e in
      let u = unless_ok (id_fault held own at ids b.0) (ids_at held own file more (at + 4) (ids ++ b.0 ∷ [])) all b.2 in
      let r = ids_told held own more (at + 4) (ids ++ b.0 ∷ []) all u.1 in (
        b.0 ∷ r.0,
        r.1 ∙ append_assoc ids (b.0 ∷ []) r.0,
        ap suc r.2,
        joined file (word b.0) (words r.0) at (at + 4) (at + 4 + 4 * more) (at + 4 * suc more) (word_told file at b.0 are b.1) r.3 (omega arith),
      )

  pub row_told : (held : ℕ → Bool) (bound own at : ℕ) (row : List ℕ) → row_at held bound own file at ≡ Ok row → drop at file ≡ row_bytes row ++ drop (at + row_size row) file
  unfolding row_at
  row_told held bound own at row e =
      let b = bind_ok (word_at file at) (λ len. cond (nat_lt bound len) (Err _) (ids_at held own file len (at + 4) [])) row e in
      let c = cond_ok (nat_lt bound b.0) _ (ids_at held own file b.0 (at + 4) []) row b.2 in
      let r = ids_told held own b.0 (at + 4) [] row c.1 in
      let same : r.0 ≡ row = sym r.1 in
      let len : b.0 ≡ length row = sym r.2 ∙ ap length same in
      joined file (word b.0) (words r.0) at (at + 4) (at + 4 + 4 * b.0) (at + row_size row) (word_told file at b.0 are b.1) r.3 (omega arith)
      ∙ ap (λ n. (word n ++ words r.0) ++ drop (at + row_size row) file) len ∙ ap (λ xs. (word (length row) ++ words xs) ++ drop (at + row_size row) file) same

  pub rows_told : (held : ℕ → Bool) (bound : ℕ) (owns : List ℕ) (at : ℕ) (rows : List (List ℕ)) (all : List (List ℕ) × ℕ) → rows_at held bound file owns at rows ≡ Ok all
      → (news : List (List ℕ)) × (all.0 ≡ rows ++ news) × (length news ≡ length owns) × (drop at file ≡ rows_bytes news ++ drop all.1 file)
  unfolding rows_at
  rows_told held bound [] at rows all e =
      let is = ok_same (rows, at) all e in ([], ap (λ p. p.0) (sym is) ∙ sym (append-nil rows), refl, nothing_there file at all.1 (ap (λ p. p.1) is))
  rows_told held bound (own ∷ owns) at rows all e =
      let b = bind_ok (row_at held bound own file at) (λ row. rows_at held bound file owns (at + row_size row) (rows ++ row ∷ [])) all e in
      let r = rows_told held bound owns (at + row_size b.0) (rows ++ b.0 ∷ []) all b.2 in (
        b.0 ∷ r.0,
        r.1 ∙ append_assoc rows (b.0 ∷ []) r.0,
        ap suc r.2,
        joined file (row_bytes b.0) (rows_bytes r.0) at (at + row_size b.0) all.1 all.1 (row_told held bound own at b.0 b.1) r.3 refl,
      )

  pub layer_ids_told : (below : ℕ → Bool) (more at least : ℕ) (ids all : List ℕ) → layer_ids_at below file more at least ids ≡ Ok all
      → (news : List ℕ) × (all ≡ ids ++ news) × (length news ≡ more) × (drop at file ≡ words news ++ drop (at + 4 * more) file)
  unfolding layer_ids_at
  layer_ids_told below zero at least ids all e = ([], sym (ok_same ids all e) ∙ sym (append-nil ids), refl, nothing_there file at (at + 4 * 0) (omega arith))
  layer_ids_told below (suc more) at least ids all e =
      let b = bind_ok (word_at file at) (λ id. unless (layer_id_fault below at least id) (layer_ids_at below file more (at + 4) (id + 1) (ids ++ id ∷ []))) all e in
      let u = unless_ok (layer_id_fault below at least b.0) (layer_ids_at below file more (at + 4) (b.0 + 1) (ids ++ b.0 ∷ [])) all b.2 in
      let r = layer_ids_told below more (at + 4) (b.0 + 1) (ids ++ b.0 ∷ []) all u.1 in (
        b.0 ∷ r.0,
        r.1 ∙ append_assoc ids (b.0 ∷ []) r.0,
        ap suc r.2,
        joined file (word b.0) (words r.0) at (at + 4) (at + 4 + 4 * more) (at + 4 * suc more) (word_told file at b.0 are b.1) r.3 (omega arith),
      )

  pub layer_told : (start degree : ℕ) (below : ℕ → Bool) (count limit at : ℕ) (layer : List ℕ × List (List ℕ) × ℕ) → layer_at start degree below count limit file at ≡ Ok layer
      → (length layer.1 ≡ length layer.0) × (drop at file ≡ ((word (length layer.0) ++ words layer.0) ++ rows_bytes layer.1) ++ drop layer.2 file)
  unfolding layer_at
  layer_told start degree below count limit at layer e =
      let With : ℕ → List ℕ → Result (List ℕ × List (List ℕ) × ℕ) IndexFault = λ members ids.
      unless (start_fault start at ids) (rows_at (λ id. has ids id) degree file ids (at + 4 + 4 * members) []) >>= (λ rows. Ok (ids, rows.0, rows.1)) in
      let b = bind_ok (word_at file at) (λ members. unless (members_fault degree count limit at members) (layer_ids_at below file members (at + 4) 0 []) >>= With members) layer e in
      let members = b.0 in
      let d = bind_ok (unless (members_fault degree count limit at members) (layer_ids_at below file members (at + 4) 0 [])) (With members) layer b.2 in
      let ids = d.0 in
      let u = unless_ok (members_fault degree count limit at members) (layer_ids_at below file members (at + 4) 0 []) ids d.1 in
      let listed = layer_ids_told below members (at + 4) 0 [] ids u.1 in
      let f = bind_ok (unless (start_fault start at ids) (rows_at (λ id. has ids id) degree file ids (at + 4 + 4 * members) [])) (λ rows. Ok (ids, rows.0, rows.1)) layer d.2 in
      let v = unless_ok (start_fault start at ids) (rows_at (λ id. has ids id) degree file ids (at + 4 + 4 * members) []) f.0 f.1 in
      let rows = rows_told (λ id. has ids id) degree ids (at + 4 + 4 * members) [] f.0 v.1 in
      let is : (ids, f.0.0, f.0.1) ≡ layer = ok_same (ids, f.0.0, f.0.1) layer f.2 in
      let same : listed.0 ≡ ids = sym listed.1 in
      let all : rows.0 ≡ f.0.0 = sym rows.1 in
      let count_is : members ≡ length ids = sym listed.2 ∙ ap length same in
      let parts : drop at file ≡ ((word (length ids) ++ words ids) ++ rows_bytes f.0.0) ++ drop f.0.1 file =
      joined file (word members ++ words listed.0) (rows_bytes rows.0) at (at + 4 + 4 * members) f.0.1 f.0.1
      (joined file (word members) (words listed.0) at (at + 4) (at + 4 + 4 * members) (at + 4 + 4 * members) (word_told file at members are b.1) listed.3 refl) rows.3 refl
      ∙ ap (λ n. ((word n ++ words listed.0) ++ rows_bytes rows.0) ++ drop f.0.1 file) count_is
      ∙ ap (λ xs. ((word (length ids) ++ words xs) ++ rows_bytes rows.0) ++ drop f.0.1 file) same
      ∙ ap (λ (rs : List (List ℕ)). ((word (length ids) ++ words ids) ++ rows_bytes rs) ++ drop f.0.1 file) all in
      subst (λ (l : List ℕ × List (List ℕ) × ℕ). (length l.1 ≡ length l.0) × (drop at file ≡ ((word (length l.0) ++ words l.0) ++ rows_bytes l.1) ++ drop l.2 file)) is (sym (ap (λ (rs : List (List ℕ)). length rs) all) ∙ rows.2, parts)

  -- the bytes of a layer from its parts
  parts_bytes : (ids : List ℕ) (rows : List (List ℕ)) → length rows ≡ length ids → (word (length ids) ++ words ids) ++ rows_bytes rows ≡ layer_bytes (zip ids rows)
  parts_bytes ids rows same =
      sym (ap (λ n. (word n ++ words (layer_ids (zip ids rows))) ++ rows_bytes (layer_rows (zip ids rows))) (length-zip ids rows same)
      ∙ ap (λ xs. (word (length ids) ++ words xs) ++ rows_bytes (layer_rows (zip ids rows))) (ids_zip ids rows same)
      ∙ ap (λ (rs : List (List ℕ)). (word (length ids) ++ words ids) ++ rows_bytes rs) (rows_zip ids rows same))

  pub layers_told : (start degree : ℕ) (below : ℕ → Bool) (count limit more at : ℕ) (layers : List (List (ℕ × List ℕ))) (all : List (List (ℕ × List ℕ)) × ℕ)
      → layers_at start degree below count limit file more at layers ≡ Ok all
      → (news : List (List (ℕ × List ℕ))) × (all.0 ≡ layers ++ news) × (length news ≡ more) × (drop at file ≡ flat_map layer_bytes news ++ drop all.1 file)
  unfolding layers_at
  layers_told start degree below count limit zero at layers all e =
      let is = ok_same (layers, at) all e in ([], ap (λ p. p.0) (sym is) ∙ sym (append-nil layers), refl, nothing_there file at all.1 (ap (λ p. p.1) is))
  layers_told start degree below count limit (suc more) at layers all e =
      let F : List ℕ × List (List ℕ) × ℕ → Result (List (List (ℕ × List ℕ)) × ℕ) IndexFault = λ l.
      layers_at start degree (λ id. has l.0 id) (length l.0) (limit + layer_words (length l.0) degree) file more l.2 (layers ++ zip l.0 l.1 ∷ []) in
      let b = bind_ok (layer_at start degree below count limit file at) F all e in
      let l = b.0 in
      let told = layer_told start degree below count limit at l b.1 in
      let r = layers_told start degree (λ id. has l.0 id) (length l.0) (limit + layer_words (length l.0) degree) more l.2 (layers ++ zip l.0 l.1 ∷ []) all b.2 in (
        zip l.0 l.1 ∷ r.0,
        r.1 ∙ append_assoc layers (zip l.0 l.1 ∷ []) r.0,
        ap suc r.2,
        joined file (layer_bytes (zip l.0 l.1)) (flat_map layer_bytes r.0) at l.2 all.1 all.1 (told.1 ∙ ap (λ xs. xs ++ drop l.2 file) (parts_bytes l.0 l.1 told.0)) r.3 refl,
      )
