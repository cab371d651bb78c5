-- What a prune leaves is apart, and what is apart stays beside each other.
use Rattle.std.proofs.Common.{◌≡◌, ℕ, zero, suc, ◌<◌, Bool, true, false, cond, List, [], ◌∷◌, ◌++◌, take, drop, length, refl, sym, ap, ◌∙◌, subst, inl, inr}
use Rattle.std.specs.Prelude.{◌⊎◌, nat_eq}
use Rattle.std.specs.List.{filter, list_all, All}
use Rattle.std.specs.List.Sorted.{IsPermutation, IsSorted}
use Rattle.std.specs.Ordering.{is_lt}
use Rattle.std.specs.declared.cmp.Ordering.TheVariants.{Less}
use Rattle.std.proofs.lemmas.Map.Keys.{IsDistinct-IsPermutation}
use Rattle.std.proofs.lemmas.Cmp.{nat_eq_equiv}
use Rattle.std.proofs.lemmas.List.{take-append-drop, map-append}
use Rattle.std.proofs.lemmas.List.Elements.{All-take, All-drop, recursion_from_All}
use Rattle.std.proofs.lemmas.List.Sorted.{All-permutation, IsPermutation-map, IsPermutation-sym, Contains-permutation}
use Rattle.ann_defs.specs.declared.near.Near.{Near}
use Rattle.ann_defs.specs.Distance.{dist_of, point}
use Rattle.ann_defs.specs.Nearness.{near_cmp, near_of, all_near, ids_of}
use Rattle.ann_defs.specs.Ordered.{Has, Rises, ordered}
use Rattle.ann_defs.specs.RobustPrune.{kept, stays, spares, pruned_row}
use Rattle.ann_defs.proofs.Order.{All_has, has-map, has-take, fold_has, has_fold_new, below_has, ordered_is, Rises-fold_put, Contains-from_has, has_from_Contains}
use Rattle.ann_defs.proofs.Members.{Once, once_distinct, distinct_once, has-mapped, filter_has, has-append, append-has, and_both, both_and}
use Rattle.ann_defs.proofs.NearOrder.{near_order}
use Rattle.ann_defs.proofs.GoodRows.{kept_has, listed_right}
use Rattle.robust_prune.specs.Pruned.{leaves}
use Rattle.robust_prune.specs.Candidates.{AreCandidates}
use Rattle.robust_prune.specs.Apart.{is_apart, are_apart, IsSpread}
use Rattle.robust_prune.proofs.Sorting.{rises, near_again}
use Rattle.robust_prune.proofs.TwoLists.{below_from, true_all, all_true, is_less}

Rises-filter : (t : Near → Bool) (xs : List Near) → Rises near_cmp xs → Rises near_cmp (filter t xs)
Rises-filter t [] h = tt
Rises-filter t (x ∷ xs) h =
    elim (t x) as (λ b. Rises near_cmp (cond b (x ∷ filter t xs) (filter t xs))) [
      | true ↦ (below_from x (filter t xs) (λ z k. below_has near_cmp near_order x z xs h.0 (filter_has t xs z k).0), Rises-filter t xs h.1)
      | false ↦ Rises-filter t xs h.1
    ]

-- sets with the same members are the same in order
ordered_same : (xs ys : List Near) → ((z : Near) → Has xs z → Has ys z) → ((z : Near) → Has ys z → Has xs z) → ordered near_cmp xs ≡ ordered near_cmp ys
ordered_same xs ys p q =
    ordered_is near_cmp near_order xs (ordered near_cmp ys) (Rises-fold_put near_cmp near_order [] ys tt)
    (λ z h. has_fold_new near_cmp near_order.exact [] ys z (p z h))
    (λ z h. q z (elim (fold_has near_cmp [] ys z h) as (λ _. Has ys z) [ inl n ↦ absurd n | inr m ↦ m ]))

module _ (points : List (List ℕ)) (num den p : ℕ) where
  abbrev AreRight : List Near → Type 0
  AreRight xs = (z : Near) → Has xs z → z ≡ near_of points (point points p) z.id

  -- with their right distances
  left_by : (c : ℕ) (z : Near) → z ≡ near_of points (point points p) z.id → stays points num den c z ≡ leaves points p num den c z.id
  left_by c z e = ap (λ (y : Near). spares num den (dist_of (point points c) (point points z.id)) y.dist) e

  apart_of : (c z : Near) → c ≡ near_of points (point points p) c.id → z ≡ near_of points (point points p) z.id → near_cmp c z ≡ Less → stays points num den c.id z ≡ true → is_apart points num den p c.id z.id ≡ true
  apart_of c z e f less s =
      both_and _ _ (ap is_lt (sym (λ i. near_cmp (e i) (f i)) ∙ less)) (sym (left_by c.id z f) ∙ s)

  kept_is_apart : (r : ℕ) (xs : List Near) → Rises near_cmp xs → AreRight xs → are_apart points num den p (ids_of (kept (stays points num den) r xs)) ≡ true
  kept_is_apart zero xs up right = refl
  kept_is_apart (suc r) [] up right = refl
  kept_is_apart (suc r) (c ∷ xs) up right =
      let beside = stays points num den in
      let rest = filter (beside c.id) xs in
      both_and (list_all (is_apart points num den p c.id) (ids_of (kept beside r rest))) (are_apart points num den p (ids_of (kept beside r rest)))
      (all_true (is_apart points num den p c.id) (ids_of (kept beside r rest)) (λ u h.
      let from = has-map (λ (y : Near). y.id) (kept beside r rest) u h in
      let in_rest = filter_has (beside c.id) xs from.0 (kept_has beside r rest from.0 from.1) in
      subst (λ v. is_apart points num den p c.id v ≡ true) from.2
      (apart_of c from.0 (right c (inl refl)) (right from.0 (inr in_rest.0)) (below_has near_cmp near_order c from.0 xs up.0 in_rest.0) in_rest.1)))
      (kept_is_apart r rest (Rises-filter (beside c.id) xs up.1) (λ z k. right z (inr (filter_has (beside c.id) xs z k).0)))

  -- what a prune leaves is apart
  pub pruned_apart : (set : List ℕ) (r : ℕ) → are_apart points num den p (pruned_row points p set num den r) ≡ true
  pruned_apart set r =
      kept_is_apart r (ordered near_cmp (all_near points (point points p) set)) (Rises-fold_put near_cmp near_order [] (all_near points (point points p) set) tt) (listed_right points p set num den r)

  pub row_apart : (set : List ℕ) (r : ℕ) (row : List ℕ) → row ≡ pruned_row points p set num den r → are_apart points num den p row ≡ true
  row_apart set r row is = ap (are_apart points num den p) is ∙ pruned_apart set r

  -- what is apart rises, and each leaves the later ones beside it
  pub apart_rises : (xs : List Near) → AreRight xs → are_apart points num den p (ids_of xs) ≡ true → Rises near_cmp xs
  apart_rises [] right h = tt
  apart_rises (x ∷ xs) right h =
      let both = and_both (list_all (is_apart points num den p x.id) (ids_of xs)) (are_apart points num den p (ids_of xs)) h in (
        below_from x xs (λ z k.
            let one = and_both _ _ (true_all (is_apart points num den p x.id) (ids_of xs) both.0 z.id (has-mapped (λ (y : Near). y.id) xs z k)) in
            (λ i. near_cmp (right x (inl refl) i) (right z (inr k) i)) ∙ is_less _ one.0),
        apart_rises xs (λ z k. right z (inr k)) both.1,
      )

  pub apart_spread : (xs : List Near) → AreRight xs → are_apart points num den p (ids_of xs) ≡ true → IsSpread (stays points num den) xs
  apart_spread [] right h = tt
  apart_spread (x ∷ xs) right h =
      let both = and_both (list_all (is_apart points num den p x.id) (ids_of xs)) (are_apart points num den p (ids_of xs)) h in (
        λ z k.
            let one = and_both _ _ (true_all (is_apart points num den p x.id) (ids_of xs) both.0 z.id (has-mapped (λ (y : Near). y.id) xs z k)) in
            left_by x.id z (right z (inr k)) ∙ one.1,
        apart_spread xs (λ z k. right z (inr k)) both.1,
      )

-- candidates of which the first are apart, and the others in order
module _ (points : List (List ℕ)) (num den p : ℕ) (cands sorted : List Near) (settled : ℕ) (are : AreCandidates points p cands) (moved : IsPermutation (drop settled cands) sorted) where
  first_has : (z : Near) → Has (take settled cands) z → Has cands z
  first_has z h = has-take settled cands z h

  parts : take settled cands ++ drop settled cands ≡ cands
  parts = take-append-drop settled cands

  right : (z : Near) → Has cands z → z ≡ near_of points (point points p) z.id
  right z h = All_has (λ x. x ≡ near_of points (point points p) x.id) cands z are.near h

  into : (z : Near) → Has (drop settled cands) z → Has sorted z
  into z h = has_from_Contains sorted z (Contains-permutation (drop settled cands) sorted z moved (Contains-from_has (drop settled cands) z h))

  back : (z : Near) → Has sorted z → Has (drop settled cands) z
  back z h = has_from_Contains (drop settled cands) z (Contains-permutation sorted (drop settled cands) z (IsPermutation-sym (drop settled cands) sorted moved) (Contains-from_has sorted z h))

  once : Once (ids_of (take settled cands) ++ ids_of (drop settled cands))
  once = subst (λ (xs : List ℕ). Once xs) (ap ids_of (sym parts) ∙ map-append (λ (y : Near). y.id) (take settled cands) (drop settled cands)) (once_distinct (ids_of cands) are.distinct)

  once_behind : (xs ys : List ℕ) → Once (xs ++ ys) → Once ys
  once_behind [] ys h = h
  once_behind (x ∷ xs) ys h = once_behind xs ys h.1

  once_apart : (xs ys : List ℕ) (u : ℕ) → Once (xs ++ ys) → Has xs u → Has ys u → ⊥
  once_apart [] ys u h k m = k
  once_apart (x ∷ xs) ys u h k m = elim k as (λ _. ⊥) [ inl e ↦ h.0 (append-has xs ys x (inr (subst (Has ys) (sym e) m))) | inr n ↦ once_apart xs ys u h.1 n m ]

  pub first_inside : All (λ x. x.id < length points) (take settled cands)
  first_inside = All-take (λ x. x.id < length points) settled cands are.in_range

  pub others_inside : All (λ x. x.id < length points) sorted
  others_inside = All-permutation (λ x. x.id < length points) (drop settled cands) sorted moved (All-drop (λ x. x.id < length points) settled cands are.in_range)

  pub first_rise : are_apart points num den p (ids_of (take settled cands)) ≡ true → Rises near_cmp (take settled cands)
  first_rise h = apart_rises points num den p (take settled cands) (λ z k. right z (first_has z k)) h

  pub first_spread : are_apart points num den p (ids_of (take settled cands)) ≡ true → IsSpread (stays points num den) (take settled cands)
  first_spread h = apart_spread points num den p (take settled cands) (λ z k. right z (first_has z k)) h

  pub others_rise : IsSorted near_cmp sorted → Rises near_cmp sorted
  others_rise up = rises sorted (IsDistinct-IsPermutation nat_eq nat_eq_equiv.symm _ _ (IsPermutation-map (λ x. x.id) (drop settled cands) sorted moved) (distinct_once (ids_of (drop settled cands)) (once_behind (ids_of (take settled cands)) (ids_of (drop settled cands)) once))) up

  pub none_twice : (z : Near) → Has (take settled cands) z → Has sorted z → ⊥
  none_twice z h k = once_apart (ids_of (take settled cands)) (ids_of (drop settled cands)) z.id once (has-mapped (λ (y : Near). y.id) (take settled cands) z h) (has-mapped (λ (y : Near). y.id) (drop settled cands) z (back z k))

  -- both together are the candidates
  pub among_ordered : ordered near_cmp (take settled cands ++ sorted) ≡ ordered near_cmp (all_near points (point points p) (ids_of cands))
  among_ordered =
      ordered_same (take settled cands ++ sorted) cands
      (λ z h. subst (λ (xs : List Near). Has xs z) parts (append-has (take settled cands) (drop settled cands) z
      (elim (has-append (take settled cands) sorted z h) as (λ _. Has (take settled cands) z ⊎ Has (drop settled cands) z) [ inl m ↦ inl m | inr m ↦ inr (back z m) ])))
      (λ z h. append-has (take settled cands) sorted z
      (elim (has-append (take settled cands) (drop settled cands) z (subst (λ (xs : List Near). Has xs z) (sym parts) h)) as (λ _. Has (take settled cands) z ⊎ Has sorted z) [ inl m ↦ inl m | inr m ↦ inr (into z m) ]))
      ∙ ap (ordered near_cmp) (sym (near_again points p cands (recursion_from_All (λ x. x ≡ near_of points (point points p) x.id) cands are.near)))
