-- Kept candidates in an order of their own.
use Rattle.std.proofs.Common.{◌≡◌, ℕ, ◌+◌, ◌<◌, ◌≤◌, Bool, true, false, List, [], ◌∷◌, ◌++◌, take, drop, set, swap, length, get_or, refl, sym, ap, ◌∙◌, subst, arith}
use Rattle.std.specs.Prelude.{◌&&◌, nat_lt}
use Rattle.std.specs.List.{list_all}
use Rattle.std.specs.List.Sorted.{IsPermutation}
use Rattle.std.proofs.Math.Seq.{take-append_seam}
use Rattle.std.proofs.lemmas.Bool.{ltb-true, ltb-false}
use Rattle.std.proofs.lemmas.List.{drop_more, take_more_set, take-append-drop, take-set-le, drop-set-lt, length-set, length-take-le, map-append, get_or-drop}
use Rattle.std.proofs.lemmas.List.Edits.{swap_is}
use Rattle.std.proofs.lemmas.List.Sorted.{IsPermutation-map, IsPermutation-sym, IsPermutation-append_left, Contains-permutation, length_permutation}
use Rattle.std.proofs.lemmas.Slice.{drop-append-drop}
use Rattle.ann_defs.specs.declared.near.Near.{Near}
use Rattle.ann_defs.specs.Nearness.{ids_of}
use Rattle.ann_defs.proofs.Order.{Contains-from_has, has_from_Contains}
use Rattle.ann_defs.proofs.Members.{same_bool}
use Rattle.robust_prune.proofs.Keeping.{list_all-push}
use Rattle.robust_prune.proofs.TwoLists.{all_true, true_all}

module _ (t : ℕ → Bool) where
  split : (xs : List Near) (i : ℕ) (d : Near) → i < length xs → list_all t (ids_of (drop i xs)) ≡ (t (get_or xs i d).id && list_all t (ids_of (drop (i + 1) xs)))
  split xs i d fits = ap (λ (ys : List Near). list_all t (ids_of ys)) (drop_more xs i d fits)

  -- one that fails the test is among those that are left
  pub one_fails : (xs : List Near) (i : ℕ) (d : Near) → i < length xs → t (get_or xs i d).id ≡ false → list_all t (ids_of (drop i xs)) ≡ false
  one_fails xs i d fits fails = split xs i d fits ∙ ap (λ b. b && list_all t (ids_of (drop (i + 1) xs))) fails

  -- one that passes it decides nothing
  pub one_passes : (xs : List Near) (i : ℕ) (d : Near) → i < length xs → t (get_or xs i d).id ≡ true → list_all t (ids_of (drop (i + 1) xs)) ≡ list_all t (ids_of (drop i xs))
  one_passes xs i d fits passes = sym (split xs i d fits ∙ ap (λ b. b && list_all t (ids_of (drop (i + 1) xs))) passes)

  moves : (us vs : List ℕ) → IsPermutation us vs → list_all t us ≡ true → list_all t vs ≡ true
  moves us vs moved h =
      all_true t vs (λ u k. true_all t us h u (has_from_Contains us u (Contains-permutation vs us u (IsPermutation-sym us vs moved) (Contains-from_has vs u k))))

  -- the order doesn't count
  pub all_in_any_order : (xs ys : List Near) → IsPermutation xs ys → list_all t (ids_of xs) ≡ list_all t (ids_of ys)
  all_in_any_order xs ys moved =
      let ids = IsPermutation-map (λ x. x.id) xs ys moved in
      same_bool (list_all t (ids_of xs)) (list_all t (ids_of ys)) (moves (ids_of xs) (ids_of ys) ids) (moves (ids_of ys) (ids_of xs) (IsPermutation-sym (ids_of xs) (ids_of ys) ids))

-- what stands in front of the rest
pub same_place : (xs ys : List Near) (i : ℕ) (d : Near) → drop i xs ≡ drop i ys → get_or xs i d ≡ get_or ys i d
same_place xs ys i d same =
    let here : i + 0 ≡ i = omega arith in
    ap (λ n. get_or xs n d) (sym here) ∙ sym (get_or-drop i xs 0 d) ∙ ap (λ (zs : List Near). get_or zs 0 d) same ∙ get_or-drop i ys 0 d ∙ ap (λ n. get_or ys n d) here

-- the kept ones in another order, and the rest behind them as it was
module _ (cands kept : List Near) (len : ℕ) (fits : len ≤ length cands) (moved : IsPermutation (take len cands) kept) where
  abbrev turned : List Near
  turned = kept ++ drop len cands

  long : length kept ≡ len
  long = length_permutation (take len cands) kept moved ∙ length-take-le len cands fits

  pub turned_moved : IsPermutation cands turned
  turned_moved = subst (λ (xs : List Near). IsPermutation xs turned) (take-append-drop len cands) (IsPermutation-append_left (drop len cands) (take len cands) kept moved)

  pub turned_front : take len turned ≡ kept
  turned_front = ap (λ n. take n turned) (sym long) ∙ take-append_seam kept (drop len cands)

  pub turned_same : (t : ℕ → Bool) → list_all t (ids_of (take len turned)) ≡ list_all t (ids_of (take len cands))
  turned_same t = ap (λ (xs : List Near). list_all t (ids_of xs)) turned_front ∙ sym (all_in_any_order t (take len cands) kept moved)

  pub turned_left : (i : ℕ) → len ≤ i → drop i turned ≡ drop i cands
  turned_left i h = drop-append-drop len cands kept i h long

-- a candidate that is kept changes places with the first of those that aren't
module _ (xs : List Near) (len i : ℕ) (d : Near) (order : len ≤ i) (fits : i < length xs) where
  written : swap xs len i ≡ set (set xs len (get_or xs i d)) i (get_or xs len d)
  written = sym (swap_is xs len i d (omega arith) fits)

  pub swapped_left : drop (i + 1) (swap xs len i) ≡ drop (i + 1) xs
  swapped_left =
      ap (drop (i + 1)) written
      ∙ drop-set-lt (i + 1) (set xs len (get_or xs i d)) i (get_or xs len d) (omega arith)
      ∙ drop-set-lt (i + 1) xs len (get_or xs i d) (omega arith)

  in_front : (y : Near) → (len ≡ i → y ≡ get_or xs i d) → take (len + 1) (set (set xs len (get_or xs i d)) i y) ≡ take len xs ++ get_or xs i d ∷ []
  in_front y same =
      let one = set xs len (get_or xs i d) in
      elim (nat_lt len i) as (λ b. nat_lt len i ≡ b → take (len + 1) (set one i y) ≡ take len xs ++ get_or xs i d ∷ []) [
        | true ↦ λ e. take-set-le (len + 1) one i y (let less = ltb-true len i e in omega arith) ∙ take_more_set xs len (get_or xs i d) (omega arith)
        | false ↦ λ e.
            let is : len ≡ i = (let more = ltb-false len i e in omega arith) in
            let far : i < length one = subst (λ n. i < n) (sym (length-set xs len (get_or xs i d))) fits in
            ap (λ n. take (n + 1) (set one i y)) is
            ∙ take_more_set one i y far
            ∙ ap (λ (z : Near). take i one ++ z ∷ []) (same is)
            ∙ ap (λ n. take n one ++ get_or xs i d ∷ []) (sym is)
            ∙ ap (λ ys. ys ++ get_or xs i d ∷ []) (take-set-le len xs len (get_or xs i d) (omega arith))
      ] refl

  pub swapped_front : take (len + 1) (swap xs len i) ≡ take len xs ++ get_or xs i d ∷ []
  swapped_front = ap (take (len + 1)) written ∙ in_front (get_or xs len d) (λ e. ap (λ n. get_or xs n d) e)

  pub swapped_same : (t : ℕ → Bool) (out : List ℕ) → len < length out → list_all t (ids_of (take len xs)) ≡ list_all t (take len out) → list_all t (ids_of (take (len + 1) (swap xs len i))) ≡ list_all t (take (len + 1) (set out len (get_or xs i d).id))
  swapped_same t out room same =
      let x = get_or xs i d in
      ap (λ (ys : List Near). list_all t (ids_of ys)) swapped_front
      ∙ ap (list_all t) (map-append (λ (y : Near). y.id) (take len xs) (x ∷ []))
      ∙ list_all-push t (ids_of (take len xs)) x.id
      ∙ ap (λ b. b && t x.id) same
      ∙ sym (list_all-push t (take len out) x.id)
      ∙ ap (list_all t) (sym (take_more_set out len x.id room))
