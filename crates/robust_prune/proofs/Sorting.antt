-- Candidates that a sort has put in order.
use Rattle.std.proofs.Common.{◌≡◌, ℕ, ◌+◌, ◌<◌, false, List, [], ◌∷◌, length, get_or, refl, sym, ap, ◌∙◌, subst, arith}
use Rattle.std.specs.Prelude.{nat_eq}
use Rattle.std.specs.List.{AllByRecursion, IsDistinct}
use Rattle.std.specs.List.Sorted.{IsPermutation, IsSorted, IsStrictlySortedBy}
use Rattle.std.specs.declared.cmp.Ordering.{Ordering}
use Rattle.std.specs.declared.cmp.Ordering.TheVariants.{Less, Equal, Greater}
use Rattle.std.specs.Ordering.{is_lt, ordering_reverse}
use Rattle.std.proofs.lemmas.Map.Keys.{sorted_from_all_adjacent, IsDistinct-IsPermutation, apart_from_distinct}
use Rattle.std.proofs.lemmas.List.Sorted.{IsPermutation-map, IsPermutation-sym, Contains-permutation}
use Rattle.std.proofs.lemmas.Cmp.{nat_eq_equiv}
use Rattle.std.proofs.lemmas.List.{get_or-map, length-map}
use Rattle.std.proofs.lemmas.List.Elements.{recursion_from_All}
use Rattle.std.proofs.lemmas.Bool.{true≢false, eq-eqb}
use Rattle.ann_defs.specs.declared.near.Near.{Near}
use Rattle.ann_defs.specs.Distance.{point}
use Rattle.ann_defs.specs.Ordered.{ordered}
use Rattle.ann_defs.specs.Nearness.{near_cmp, near_of, all_near, ids_of}
use Rattle.ann_defs.specs.Ordered.{Rises}
use Rattle.ann_defs.proofs.Order.{Contains-from_has, has_from_Contains, ordered_is}
use Rattle.ann_defs.proofs.NearOrder.{near_order}
use Rattle.robust_prune.specs.Candidates.{AreCandidates}

Rises-from_sorted : (xs : List Near) → IsStrictlySortedBy near_cmp xs → Rises near_cmp xs
unfolding IsStrictlySortedBy
Rises-from_sorted [] h = tt
Rises-from_sorted (x ∷ xs) h = (h.0, Rises-from_sorted xs h.1)

-- not after, and not the same
Less-from : (r : Ordering) → is_lt (ordering_reverse r) ≡ false → (r ≡ Equal → ⊥) → r ≡ Less
Less-from Less h n = refl
Less-from Equal h n = absurd (n refl)
Less-from Greater h n = absurd (true≢false h)

pub rises : (xs : List Near) → IsDistinct nat_eq (ids_of xs) → IsSorted near_cmp xs → Rises near_cmp xs
rises xs distinct sorted =
    let none : Near = record { dist = 0; id = 0 } in
    Rises-from_sorted xs (sorted_from_all_adjacent near_order.total xs none (λ k h.
    let x = get_or xs k none in
    let y = get_or xs (k + 1) none in
    Less-from (near_cmp x y)
    (subst (λ r. is_lt r ≡ false) (near_order.total.antisymm y x) (sorted k none (omega arith) h))
    (λ e.
    let same : x.id ≡ y.id = ap (λ z. z.id) (near_order.exact x y e) in
    let within : k < length xs = omega arith in
    let first : get_or (ids_of xs) k 0 ≡ x.id = get_or-map (λ z. z.id) xs k none 0 within in
    let second : get_or (ids_of xs) (k + 1) 0 ≡ y.id = get_or-map (λ z. z.id) xs (k + 1) none 0 h in
    let apart : nat_eq (get_or (ids_of xs) k 0) (get_or (ids_of xs) (k + 1) 0) ≡ false =
    apart_from_distinct nat_eq (ids_of xs) k (k + 1) 0 distinct (omega arith) (rw length-map h) in
    true≢false (sym (eq-eqb _ _ (first ∙ same ∙ sym second)) ∙ apart))))

-- the ids of right distances give the candidates again
pub near_again : (points : List (List ℕ)) (p : ℕ) (xs : List Near) → AllByRecursion (λ x. x ≡ near_of points (point points p) x.id) xs → all_near points (point points p) (ids_of xs) ≡ xs
near_again points p [] h = refl
near_again points p (x ∷ xs) h = λ i. sym h.0 i ∷ near_again points p xs h.1 i

pub ordered_sorted : (points : List (List ℕ)) (p : ℕ) (cands sorted : List Near) → AreCandidates points p cands → IsPermutation cands sorted → IsSorted near_cmp sorted → ordered near_cmp (all_near points (point points p) (ids_of cands)) ≡ sorted
ordered_sorted points p cands sorted are moved up =
    ap (ordered near_cmp) (near_again points p cands (recursion_from_All (λ x. x ≡ near_of points (point points p) x.id) cands are.near))
    ∙ ordered_is near_cmp near_order cands sorted
    (rises sorted (IsDistinct-IsPermutation nat_eq nat_eq_equiv.symm _ _ (IsPermutation-map (λ x. x.id) cands sorted moved) are.distinct) up)
    (λ z h. has_from_Contains sorted z (Contains-permutation cands sorted z moved (Contains-from_has cands z h)))
    (λ z h. has_from_Contains cands z (Contains-permutation sorted cands z (IsPermutation-sym cands sorted moved) (Contains-from_has sorted z h)))
