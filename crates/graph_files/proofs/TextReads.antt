-- Where a file holds the text of a well-formed index, this index is read.
use Rattle.std.proofs.Common.{◌≡◌, ◌≢◌, ℕ, zero, suc, ◌+◌, ◌*◌, ◌^◌, ◌<◌, ◌≤◌, Bool, true, false, cond, nat_lt, eqb, List, [], ◌∷◌, ◌++◌, length, drop, get_or, Some, None, Result, Ok, Err, refl, sym, ap, subst, ◌∙◌, inl, inr, arith, append_assoc, length-append}
use Rattle.std.specs.List.{AllZip, IsDistinct, flat_map, sum_by, zip}
use Rattle.std.specs.Int.{w32, from_le_bytes}
use Rattle.std.proofs.lemmas.Bool.{le-ltb, ne_eqb}
use Rattle.std.proofs.lemmas.List.{append-nil, drop-drop, get_or-drop, length-map}
use Rattle.std.proofs.Math.Seq.{drop-append_seam}
use Rattle.std.proofs.lemmas.List.Elements.{All-head, All-tail}
use Rattle.std.proofs.lemmas.List.Sums.{sum_by-cons}
use Rattle.std.proofs.lemmas.Map.Keys.{IsDistinct-from_apart}
use Rattle.std.proofs.lemmas.Map.Made.{length-le_from_is_member}
use Rattle.std.proofs.lemmas.Nat.{from_le_bytes-to_le_bytes_4}
use Rattle.bin_files.specs.Points.{u32_at}
use Rattle.ann_defs.specs.Graph.{has}
use Rattle.ann_defs.specs.Ordered.{Has}
use Rattle.ann_defs.proofs.Members.{Once, once_distinct, has_true, has-append}
use Rattle.ann_defs.proofs.Order.{All_has}
use Rattle.graph_files.specs.declared.fault.IndexFault.{IndexFault}
use Rattle.graph_files.specs.declared.fault.IndexFault.TheVariants.{Malformed, TooLarge}
use Rattle.graph_files.specs.declared.fault.IndexRule.TheVariants.{Degree, LayerIds, Short}
use Rattle.ann_shelf.specs.declared.slip.Quantity.TheVariants.{Words}
use Rattle.graph_files.specs.Grammar.{◌>>=◌, unless, word_at, id_fault, ids_at, row_at, row_size, rows_at, layer_id_fault, layer_ids_at, members_fault, start_fault, layer_at, layers_at}
use Rattle.graph_rows.specs.Index.{word, words, row_bytes, rows_bytes, layer_ids, layer_rows, layer_bytes}
use Rattle.ann_defs.specs.Ordered.{Ascends}
use Rattle.graph_rows.specs.WellFormed.{IsRowIn, AreRowsOf, IsFurtherLayer, AreFurtherLayers, layer_words}
use Rattle.graph_files.proofs.RowLoop.{eqb_laws, member_is}
use Rattle.graph_files.proofs.UpperLoop.{Entries, holding, zip_parts}

-- what stands behind a piece
pub behind : (file a rest : List ℕ) (at next : ℕ) → drop at file ≡ a ++ rest → at + length a ≡ next → drop next file ≡ rest
behind file a rest at next e is =
    ap (λ k. drop k file) (sym is) ∙ sym (drop-drop (length a) at file) ∙ ap (drop (length a)) e ∙ drop-append_seam a rest

pub length-words : (ns : List ℕ) → length (words ns) ≡ 4 * length ns
length-words [] = refl
length-words (n ∷ ns) = simp length-append (omega (arith, length-words ns))

pub length-row_bytes : (row : List ℕ) → length (row_bytes row) ≡ row_size row
length-row_bytes row = simp length-append (omega (arith, length-words row))

-- the number whose four bytes stand at a place
pub word_here : (file : List ℕ) (at n : ℕ) (rest : List ℕ) → n < 2 ^ 32 → drop at file ≡ word n ++ rest → word_at file at ≡ Ok n
word_here file at n rest small e =
    let long : 4 ≤ length (drop at file) = omega (arith, ap length e) in
    let byte : (k : ℕ) → get_or file (at + k) 0 ≡ get_or (word n ++ rest) k 0 = λ k. sym (get_or-drop at file k 0) ∙ ap (λ xs. get_or xs k 0) e in
    let first : get_or file at 0 ≡ get_or (word n ++ rest) 0 0 = ap (λ k. get_or file k 0) (omega arith) ∙ byte 0 in
    let bytes : get_or file at 0 ∷ get_or file (at + 1) 0 ∷ get_or file (at + 2) 0 ∷ get_or file (at + 3) 0 ∷ [] ≡ word n = λ i. first i ∷ byte 1 i ∷ byte 2 i ∷ byte 3 i ∷ [] in
    let value : u32_at file at ≡ n = ap (from_le_bytes w32) bytes ∙ from_le_bytes-to_le_bytes_4 n small in
    ap (λ b. cond b (Err (Malformed (at + length (drop at file)) Short)) (Ok (u32_at file at))) (le-ltb (length (drop at file)) 4 long) ∙ ap (λ k. Ok k) value

pub id_sound : (held : ℕ → Bool) (own at : ℕ) (ids : List ℕ) (id : ℕ) → held id ≡ true → eqb id own ≡ false → has ids id ≡ false → id_fault held own at ids id ≡ None
id_sound held own at ids id h o d = rw (h, o, d) refl

pub not_among : (ids : List ℕ) (id : ℕ) → (Has ids id → ⊥) → has ids id ≡ false
not_among ids id n = decide (has ids id) (λ e. n (has_true ids id e))
  where
    decide : (b : Bool) → (b ≡ true → ⊥) → b ≡ false
    decide true f = absurd (f refl)
    decide false f = refl

-- a layer below holds no more than so many ids, each a number of four bytes
pub record Holds (below : ℕ → Bool) (count : ℕ) : Type 0 where
  pub many : (xs : List ℕ) → IsDistinct eqb xs → ((z : ℕ) → Has xs z → below z ≡ true) → length xs ≤ count
  pub small : (z : ℕ) → below z ≡ true → z < 2 ^ 32

module _ (file : List ℕ) where
  pub ids_here : (held : ℕ → Bool) (own : ℕ) (news ids : List ℕ) (at : ℕ) (rest : List ℕ) → ((z : ℕ) → Has news z → (z < 2 ^ 32) × (held z ≡ true) × (z ≢ own)) → Once news → ((z : ℕ) → Has ids z → Has news z → ⊥)
      → drop at file ≡ words news ++ rest → ids_at held own file (length news) at ids ≡ Ok (ids ++ news)
  unfolding ids_at
  ids_here held own [] ids at rest sound once apart e = ap (λ xs. Ok xs) (sym (append-nil ids))
  ids_here held own (id ∷ news) ids at rest sound once apart e =
      let here = sound id (inl refl) in
      let split : drop at file ≡ word id ++ (words news ++ rest) = e ∙ append_assoc (word id) (words news) rest in
      let step : ℕ → Result (List ℕ) IndexFault = λ n. unless (id_fault held own at ids n) (ids_at held own file (length news) (at + 4) (ids ++ n ∷ [])) in
      let fresh = not_among ids id (λ m. apart id m (inl refl)) in
      ap (λ r. r >>= step) (word_here file at id (words news ++ rest) here.0 split)
      ∙ ap (λ o. unless o (ids_at held own file (length news) (at + 4) (ids ++ id ∷ []))) (id_sound held own at ids id here.1 (ne_eqb id own here.2) fresh)
      ∙ ids_here held own news (ids ++ id ∷ []) (at + 4) rest (λ z m. sound z (inr m)) once.1
      (λ z a b. elim (has-append ids (id ∷ []) z a) as (λ _. ⊥) [ inl m ↦ apart z m (inr b) | inr m ↦ elim m as (λ _. ⊥) [ inl q ↦ once.0 (subst (Has news) (sym q) b) | inr n ↦ absurd n ] ])
      (behind file (word id) (words news ++ rest) at (at + 4) split refl)
      ∙ ap (λ xs. Ok xs) (append_assoc ids (id ∷ []) news)

  pub row_here : (held : ℕ → Bool) (bound own : ℕ) (row : List ℕ) (at : ℕ) (rest : List ℕ) → IsRowIn held bound own row → ((z : ℕ) → held z ≡ true → z < 2 ^ 32) → bound < 2 ^ 32
      → drop at file ≡ row_bytes row ++ rest → row_at held bound own file at ≡ Ok row
  unfolding row_at
  row_here held bound own row at rest is small few e =
      let split : drop at file ≡ word (length row) ++ (words row ++ rest) = e ∙ append_assoc (word (length row)) (words row) rest in
      ap (λ r. r >>= (λ len. cond (nat_lt bound len) (Err (Malformed at Degree)) (ids_at held own file len (at + 4) []))) (word_here file at (length row) (words row ++ rest) (omega (arith, is.short)) split)
      ∙ ap (λ b. cond b (Err (Malformed at Degree)) (ids_at held own file (length row) (at + 4) [])) (le-ltb bound (length row) is.short)
      ∙ ids_here held own row [] (at + 4) rest
      (λ z m. let in_layer = All_has (λ v. held v ≡ true) row z is.inside m in (small z in_layer, in_layer, All_has (λ v. v ≢ own) row z is.others m))
      (once_distinct row is.distinct) (λ z a b. a) (behind file (word (length row)) (words row ++ rest) at (at + 4) split refl)

  pub rows_here : (held : ℕ → Bool) (bound : ℕ) (owns : List ℕ) (news rows : List (List ℕ)) (at : ℕ) (rest : List ℕ) → AllZip (λ own row. IsRowIn held bound own row) owns news → ((z : ℕ) → held z ≡ true → z < 2 ^ 32) → bound < 2 ^ 32
      → drop at file ≡ rows_bytes news ++ rest → rows_at held bound file owns at rows ≡ Ok (rows ++ news, at + length (rows_bytes news))
  unfolding rows_at
  rows_here held bound [] [] rows at rest are small few e =
      let place : at ≡ at + 0 = omega arith in ap (λ rs. Ok (rs, at)) (sym (append-nil rows)) ∙ ap (λ k. Ok (rows ++ [], k)) place
  rows_here held bound [] (row ∷ news) rows at rest are small few e = absurd are
  rows_here held bound (own ∷ owns) [] rows at rest are small few e = absurd are
  rows_here held bound (own ∷ owns) (row ∷ news) rows at rest are small few e =
      let split : drop at file ≡ row_bytes row ++ (rows_bytes news ++ rest) = e ∙ append_assoc (row_bytes row) (rows_bytes news) rest in
      let size = length-row_bytes row in
      let place : at + row_size row + length (rows_bytes news) ≡ at + length (row_bytes row ++ rows_bytes news) = omega (arith, length-append (row_bytes row) (rows_bytes news)) in
      ap (λ r. r >>= (λ x. rows_at held bound file owns (at + row_size x) (rows ++ x ∷ []))) (row_here held bound own row at (rows_bytes news ++ rest) are.0 small few split)
      ∙ rows_here held bound owns news (rows ++ row ∷ []) (at + row_size row) rest are.1 small few (behind file (row_bytes row) (rows_bytes news ++ rest) at (at + row_size row) split (ap (λ n. at + n) size))
      ∙ ap (λ (rs : List (List ℕ)). Ok (rs, at + row_size row + length (rows_bytes news))) (append_assoc rows (row ∷ []) news)
      ∙ ap (λ k. Ok (rows ++ row ∷ news, k)) place

  -- from a least one on, each is greater than the one before
  abbrev Climbs : ℕ → List ℕ → Type 0
  Climbs least [] = Unit {0}
  Climbs least (x ∷ xs) = (least ≤ x) × Climbs (x + 1) xs

  pub layer_ids_here : (below : ℕ → Bool) (news : List ℕ) (least : ℕ) (ids : List ℕ) (at : ℕ) (rest : List ℕ) → ((z : ℕ) → Has news z → (z < 2 ^ 32) × (below z ≡ true)) → Climbs least news
      → drop at file ≡ words news ++ rest → layer_ids_at below file (length news) at least ids ≡ Ok (ids ++ news)
  unfolding layer_ids_at
  layer_ids_here below [] least ids at rest sound climbs e = ap (λ xs. Ok xs) (sym (append-nil ids))
  layer_ids_here below (id ∷ news) least ids at rest sound climbs e =
      let here = sound id (inl refl) in
      let split : drop at file ≡ word id ++ (words news ++ rest) = e ∙ append_assoc (word id) (words news) rest in
      let none : layer_id_fault below at least id ≡ None = rw (le-ltb id least climbs.0, here.1) refl in
      ap (λ r. r >>= (λ n. unless (layer_id_fault below at least n) (layer_ids_at below file (length news) (at + 4) (n + 1) (ids ++ n ∷ [])))) (word_here file at id (words news ++ rest) here.0 split)
      ∙ ap (λ o. unless o (layer_ids_at below file (length news) (at + 4) (id + 1) (ids ++ id ∷ []))) none
      ∙ layer_ids_here below news (id + 1) (ids ++ id ∷ []) (at + 4) rest (λ z m. sound z (inr m)) climbs.1 (behind file (word id) (words news ++ rest) at (at + 4) split refl)
      ∙ ap (λ xs. Ok xs) (append_assoc ids (id ∷ []) news)

  climbs_of : (xs : List ℕ) (least : ℕ) → Ascends xs → ((k : ℕ) → k < length xs → least ≤ get_or xs k 0) → Climbs least xs
  climbs_of [] least up from = tt
  climbs_of (x ∷ xs) least up from = (
    from 0 (omega arith),
    climbs_of xs (x + 1) (λ j k less lt. up (suc j) (suc k) (omega arith) (omega arith)) (λ k lt. let more = up 0 (suc k) (omega arith) (omega arith) in omega arith),
  )

  zipped : (held : ℕ → Bool) (bound : ℕ) (layer : Entries) → AreRowsOf held bound layer → AllZip (λ own row. IsRowIn held bound own row) (layer_ids layer) (layer_rows layer)
  zipped held bound [] are = tt
  zipped held bound (e ∷ layer) are = (
    All-head (λ (x : ℕ × List ℕ). IsRowIn held bound x.0 x.1) e layer are,
    zipped held bound layer (All-tail (λ (x : ℕ × List ℕ). IsRowIn held bound x.0 x.1) e layer are),
  )

  pub base_here : (held : ℕ → Bool) (bound : ℕ) (layer : Entries) (owns : List ℕ) (at : ℕ) (rest : List ℕ) → AreRowsOf held bound layer → layer_ids layer ≡ owns → ((z : ℕ) → held z ≡ true → z < 2 ^ 32) → bound < 2 ^ 32
      → drop at file ≡ rows_bytes (layer_rows layer) ++ rest → rows_at held bound file owns at [] ≡ Ok (layer_rows layer, at + length (rows_bytes (layer_rows layer)))
  base_here held bound layer owns at rest are is small few e =
      rows_here held bound owns (layer_rows layer) [] at rest (subst (λ xs. AllZip (λ own row. IsRowIn held bound own row) xs (layer_rows layer)) is (zipped held bound layer are)) small few e

  distinct_of : (xs : List ℕ) → Ascends xs → IsDistinct eqb xs
  distinct_of xs up = IsDistinct-from_apart eqb xs (λ i j d less lt.
      let lower : get_or xs i d ≡ get_or xs i 0 = same_at xs i d (omega arith) in
      let upper : get_or xs j d ≡ get_or xs j 0 = same_at xs j d lt in
      ne_eqb (get_or xs i d) (get_or xs j d) (λ e. absurd (omega (arith, up i j less lt))))
    where
      same_at : (ys : List ℕ) (k d : ℕ) → k < length ys → get_or ys k d ≡ get_or ys k 0
      same_at [] k d lt = absurd (omega arith)
      same_at (y ∷ ys) zero d lt = refl
      same_at (y ∷ ys) (suc k) d lt = same_at ys k d (omega arith)

  pub holds_layer : (start degree : ℕ) (below : ℕ → Bool) (count : ℕ) (layer : Entries) → Holds below count → IsFurtherLayer start degree below layer → Holds (holding layer) (length layer)
  holds_layer start degree below count layer h is = record {
    many = λ xs distinct inside. subst (λ n. length xs ≤ n) (length-map layer (λ (e : ℕ × List ℕ). e.0))
        (length-le_from_is_member eqb_laws xs (layer_ids layer) distinct (λ q m. member_is (layer_ids layer) q ∙ inside q (has_true xs q (sym (member_is xs q) ∙ m))));
    small = λ z m. h.small z (All_has (λ v. below v ≡ true) (layer_ids layer) z is.inside (has_true (layer_ids layer) z m));
  }

  pub layer_here : (start degree : ℕ) (below : ℕ → Bool) (count limit : ℕ) (layer : Entries) (at : ℕ) (rest : List ℕ) → Holds below count → count < 2 ^ 32 → degree < 2 ^ 32 → IsFurtherLayer start degree below layer
      → limit + layer_words (length layer) degree ≤ 134217728 → drop at file ≡ layer_bytes layer ++ rest
      → layer_at start degree below count limit file at ≡ Ok (layer_ids layer, layer_rows layer, at + length (layer_bytes layer))
  unfolding layer_at
  layer_here start degree below count limit layer at rest h few thin is fits e =
      let ids = layer_ids layer in
      let rows = layer_rows layer in
      let n = length layer in
      let many : length ids ≡ n = length-map layer (λ (x : ℕ × List ℕ). x.0) in
      let inside : (z : ℕ) → Has ids z → below z ≡ true = λ z m. All_has (λ v. below v ≡ true) ids z is.inside m in
      let within : n ≤ count = subst (λ k. k ≤ count) many (h.many ids (distinct_of ids is.ascend) inside) in
      let split : drop at file ≡ word n ++ (words ids ++ (rows_bytes rows ++ rest)) =
      e ∙ append_assoc (word n ++ words ids) (rows_bytes rows) rest ∙ append_assoc (word n) (words ids) (rows_bytes rows ++ rest) in
      let second : drop (at + 4) file ≡ words ids ++ (rows_bytes rows ++ rest) = behind file (word n) (words ids ++ (rows_bytes rows ++ rest)) at (at + 4) split refl in
      let size : length (words ids) ≡ 4 * n = length-words ids ∙ ap (λ k. 4 * k) many in
      let third : drop (at + 4 + 4 * n) file ≡ rows_bytes rows ++ rest = behind file (words ids) (rows_bytes rows ++ rest) (at + 4) (at + 4 + 4 * n) second (ap (λ k. at + 4 + k) size) in
      let With : ℕ → List ℕ → Result (List ℕ × List (List ℕ) × ℕ) IndexFault = λ members xs.
      unless (start_fault start at xs) (rows_at (λ id. has xs id) degree file xs (at + 4 + 4 * members) []) >>= (λ rs. Ok (xs, rs.0, rs.1)) in
      let counted : members_fault degree count limit at n ≡ None = sound_count (eqb n 0) (nat_lt count n) (nat_lt 134217728 (limit + layer_words n degree)) (Malformed at LayerIds) (Malformed at LayerIds) (TooLarge Words (limit + layer_words n degree) 134217728)
      (ne_eqb n 0 (λ z. absurd (omega (arith, is.some)))) (le-ltb count n within) (le-ltb 134217728 (limit + layer_words n degree) fits) in
      let begun : start_fault start at ids ≡ None = ap (λ b. cond b None (Some (Malformed at LayerIds))) is.has_start in
      let listed : layer_ids_at below file n (at + 4) 0 [] ≡ Ok ids =
      ap (λ k. layer_ids_at below file k (at + 4) 0 []) (sym many)
      ∙ layer_ids_here below ids 0 [] (at + 4) (rows_bytes rows ++ rest) (λ z m. let b = inside z m in (h.small z b, b)) (climbs_of ids 0 is.ascend (λ k lt. omega arith)) second in
      let place : at + 4 + 4 * n + length (rows_bytes rows) ≡ at + length (layer_bytes layer) =
      omega (arith, size, length-append (word n ++ words ids) (rows_bytes rows), length-append (word n) (words ids)) in
      ap (λ r. r >>= (λ members. unless (members_fault degree count limit at members) (layer_ids_at below file members (at + 4) 0 []) >>= With members)) (word_here file at n (words ids ++ (rows_bytes rows ++ rest)) (omega arith) split)
      ∙ ap (λ o. unless o (layer_ids_at below file n (at + 4) 0 []) >>= With n) counted
      ∙ ap (λ r. r >>= With n) listed
      ∙ ap (λ o. unless o (rows_at (λ id. has ids id) degree file ids (at + 4 + 4 * n) []) >>= (λ rs. Ok (ids, rs.0, rs.1))) begun
      ∙ ap (λ r. r >>= (λ rs. Ok (ids, rs.0, rs.1)))
      (base_here (λ id. has ids id) degree layer ids (at + 4 + 4 * n) rest is.rows refl (λ z m. h.small z (inside z (has_true ids z m))) thin third)
      ∙ ap (λ k. Ok (ids, rows, k)) place
    where
      sound_count : (none over large : Bool) (a b c : IndexFault) → none ≡ false → over ≡ false → large ≡ false → cond none (Some a) (cond over (Some b) (cond large (Some c) None)) ≡ None
      sound_count none over large a b c p q r = rw (p, q, r) refl

  abbrev upper_words : ℕ → List Entries → ℕ
  upper_words degree layers = sum_by (λ (layer : Entries). layer_words (length layer) degree) layers

  pub layers_here : (start degree : ℕ) (below : ℕ → Bool) (count limit : ℕ) (news layers : List Entries) (at : ℕ) (rest : List ℕ) → Holds below count → count < 2 ^ 32 → degree < 2 ^ 32 → AreFurtherLayers start degree below news
      → limit + upper_words degree news ≤ 134217728 → drop at file ≡ flat_map layer_bytes news ++ rest
      → layers_at start degree below count limit file (length news) at layers ≡ Ok (layers ++ news, at + length (flat_map layer_bytes news))
  unfolding layers_at
  layers_here start degree below count limit [] layers at rest h few thin are fits e =
      let place : at ≡ at + 0 = omega arith in ap (λ ls. Ok (ls, at)) (sym (append-nil layers)) ∙ ap (λ k. Ok (layers ++ [], k)) place
  layers_here start degree below count limit (layer ∷ news) layers at rest h few thin are fits e =
      let ids = layer_ids layer in
      let n = length layer in
      let many : length ids ≡ n = length-map layer (λ (x : ℕ × List ℕ). x.0) in
      let split : drop at file ≡ layer_bytes layer ++ (flat_map layer_bytes news ++ rest) = e ∙ append_assoc (layer_bytes layer) (flat_map layer_bytes news) rest in
      let sum = sum_by-cons (λ (l : Entries). layer_words (length l) degree) layer news in
      let inside : (z : ℕ) → Has ids z → below z ≡ true = λ z m. All_has (λ v. below v ≡ true) ids z are.0.inside m in
      let within : n ≤ count = subst (λ k. k ≤ count) many (h.many ids (distinct_of ids are.0.ascend) inside) in
      let F : List ℕ × List (List ℕ) × ℕ → Result (List Entries × ℕ) IndexFault = λ l.
      layers_at start degree (λ id. has l.0 id) (length l.0) (limit + layer_words (length l.0) degree) file (length news) l.2 (layers ++ zip l.0 l.1 ∷ []) in
      let next = at + length (layer_bytes layer) in
      let place : next + length (flat_map layer_bytes news) ≡ at + length (layer_bytes layer ++ flat_map layer_bytes news) = omega (arith, length-append (layer_bytes layer) (flat_map layer_bytes news)) in
      ap (λ r. r >>= F) (layer_here start degree below count limit layer at (flat_map layer_bytes news ++ rest) h few thin are.0 (omega arith) split)
      ∙ ap (λ k. layers_at start degree (holding layer) k (limit + layer_words k degree) file (length news) next (layers ++ zip ids (layer_rows layer) ∷ [])) many
      ∙ ap (λ (l : Entries). layers_at start degree (holding layer) n (limit + layer_words n degree) file (length news) next (layers ++ l ∷ [])) (zip_parts layer)
      ∙ layers_here start degree (holding layer) n (limit + layer_words n degree) news (layers ++ layer ∷ []) next rest (holds_layer start degree below count layer h are.0) (omega arith) thin are.1 (omega arith)
      (behind file (layer_bytes layer) (flat_map layer_bytes news ++ rest) at next split refl)
      ∙ ap (λ (ls : List Entries). Ok (ls, next + length (flat_map layer_bytes news))) (append_assoc layers (layer ∷ []) news)
      ∙ ap (λ k. Ok (layers ++ layer ∷ news, k)) place
