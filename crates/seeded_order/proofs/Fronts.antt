-- An id that is moved to the front of a list.
use Rattle.std.proofs.Common.{◌≡◌, ◌≢◌, ℕ, suc, ◌+◌, ◌<◌, Bool, true, false, cond, not, List, [], ◌∷◌, ◌++◌, take, drop, set, length, get_or, refl, sym, ap, ◌∙◌, arith, add-one, add-zero}
use Rattle.std.specs.Prelude.{◌==◌}
use Rattle.std.specs.List.{filter, count_by, range_with_len}
use Rattle.std.proofs.lemmas.Bool.{eq-eqb, ne_eqb}
use Rattle.std.proofs.lemmas.List.{append_assoc, map-id, take-append-drop, get_or-drop, set_split, drop_more, take_more, take_more_set, drop-set-lt, drop-drop}
use Rattle.std.proofs.lemmas.List.Elements.{filter-append, filter_more}
use Rattle.std.proofs.lemmas.List.Filters.{length-filter_both}
use Rattle.std.proofs.lemmas.List.FromFn.{map-range_with_len_more}
use Rattle.std.proofs.lemmas.List.Sums.{sum_by-cons, sum_by-append, length-filter}
use Rattle.seeded_order.specs.Order.{to_front}

-- one id more
pub range_more : (a n j : ℕ) → a + n ≡ j → range_with_len a (n + 1) ≡ range_with_len a n ++ j ∷ []
range_more a n j e =
    sym (map-id (range_with_len a (n + 1)))
    ∙ map-range_with_len_more (λ (x : ℕ). x) a n j e
    ∙ ap (λ (xs : List ℕ). xs ++ j ∷ []) (map-id (range_with_len a n))

-- where none passes, all are left
pub none_filtered : {K : Type 0} (p : K → Bool) (xs : List K) → count_by p xs ≡ 0 → filter (λ x. not (p x)) xs ≡ xs
none_filtered p [] h = refl
none_filtered {K} p (x ∷ xs) h =
    elim (p x) as (λ b. cond b 1 0 + count_by p xs ≡ 0 → cond (not b) (x ∷ filter (λ x. not (p x)) xs) (filter (λ x. not (p x)) xs) ≡ x ∷ xs) [
      | true ↦ λ e. absurd (omega arith)
      | false ↦ λ e. let none : count_by p xs ≡ 0 = omega arith in ap (λ (ys : List K). x ∷ ys) (none_filtered p xs none)
    ] (sym (sum_by-cons (λ x. cond (p x) 1 0) x xs) ∙ h)

module _ (id : ℕ) (ys : List ℕ) where
  abbrev is_id : ℕ → Bool
  is_id x = x == id

  abbrev is_other : ℕ → Bool
  is_other x = not (x == id)

  -- a list of which each is another doesn't hold the id
  pub others_lack : filter is_other ys ≡ ys → count_by is_id ys ≡ 0
  others_lack h =
      let same : length (filter is_other ys) ≡ length ys = ap length h in
      omega (arith, length-filter_both is_id is_other (λ _. refl) ys, length-filter is_id ys)

  module _ (xs : List ℕ) (i c : ℕ) (within : i < length xs) (within' : i < length ys) (front : take i xs ++ c ∷ [] ≡ id ∷ take i ys) (rest : drop i xs ≡ drop i ys) where
    -- what stands here is still the old
    pub same_here : get_or xs i 0 ≡ get_or ys i 0
    same_here =
        let left = get_or-drop i xs 0 0 in
        let right = get_or-drop i ys 0 0 in
        rw (sym (add-zero i)) (sym left ∙ ap (λ (zs : List ℕ). get_or zs 0 0) rest ∙ right)

    pub same_rest : drop (i + 1) xs ≡ drop (i + 1) ys
    same_rest = sym (drop-drop 1 i xs) ∙ ap (drop 1) rest ∙ drop-drop 1 i ys

    pub front_more : take (i + 1) (set xs i c) ++ get_or xs i 0 ∷ [] ≡ id ∷ take (i + 1) ys
    front_more =
        ap (λ (zs : List ℕ). zs ++ get_or xs i 0 ∷ []) (take_more_set xs i c within ∙ front)
        ∙ ap (λ (z : ℕ). (id ∷ take i ys) ++ z ∷ []) same_here
        ∙ ap (λ (zs : List ℕ). id ∷ zs) (sym (take_more ys i 0 within'))

    pub rest_more : drop (i + 1) (set xs i c) ≡ drop (i + 1) ys
    rest_more = drop-set-lt (i + 1) xs i c (omega arith) ∙ same_rest

    pub others_more : get_or xs i 0 ≢ id → filter is_other (take i ys) ≡ take i ys → filter is_other (take (i + 1) ys) ≡ take (i + 1) ys
    others_more apart h =
        let other : is_id (get_or ys i 0) ≡ false = ne_eqb (get_or ys i 0) id (λ e. apart (same_here ∙ e)) in
        filter_more is_other ys i 0 within'
        ∙ ap (λ (b : Bool). filter is_other (take i ys) ++ cond (not b) (get_or ys i 0 ∷ []) []) other
        ∙ ap (λ (zs : List ℕ). zs ++ get_or ys i 0 ∷ []) h
        ∙ sym (take_more ys i 0 within')

    -- here the id stood
    pub moved : get_or xs i 0 ≡ id → filter is_other (take i ys) ≡ take i ys → count_by is_id ys ≡ 1 → set xs i c ≡ to_front id ys
    moved here others once =
        let after = drop (i + 1) ys in
        let old : drop i ys ≡ id ∷ after = drop_more ys i 0 within' ∙ ap (λ (z : ℕ). z ∷ after) (sym same_here ∙ here) in
        let split : ys ≡ take i ys ++ id ∷ after = sym (take-append-drop i ys) ∙ ap (λ (zs : List ℕ). take i ys ++ zs) old in
        let counted : count_by is_id (take i ys) + count_by is_id (id ∷ after) ≡ 1 =
        sym (sum_by-append (λ x. cond (is_id x) 1 0) (take i ys) (id ∷ after)) ∙ ap (count_by is_id) (sym split) ∙ once in
        let first : count_by is_id (id ∷ after) ≡ 1 + count_by is_id after =
        sum_by-cons (λ x. cond (is_id x) 1 0) id after ∙ ap (λ (b : Bool). cond b 1 0 + count_by is_id after) (eq-eqb id id refl) in
        let none : count_by is_id after ≡ 0 = omega arith in
        let left : filter is_other (id ∷ after) ≡ after =
        ap (λ (b : Bool). cond (not b) (id ∷ filter is_other after) (filter is_other after)) (eq-eqb id id refl) ∙ none_filtered is_id after none in
        let kept : filter is_other ys ≡ take i ys ++ after =
        ap (filter is_other) split ∙ filter-append is_other (take i ys) (id ∷ after) ∙ (λ k. others k ++ left k) in
        set_split xs i c within
        ∙ sym (append_assoc (take i xs) (c ∷ []) (drop (suc i) xs))
        ∙ ap (λ (zs : List ℕ). zs ++ drop (suc i) xs) front
        ∙ ap (λ (zs : List ℕ). (id ∷ take i ys) ++ zs) (rw (sym (add-one i)) same_rest)
        ∙ ap (λ (zs : List ℕ). id ∷ zs) (sym kept)
