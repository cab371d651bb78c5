-- A prune takes the least candidate, and then prunes those that this one doesn't remove.
use Rattle.std.proofs.Common.{◌≡◌, ◌≢◌, ℕ, suc, Bool, true, false, cond, not, List, [], ◌∷◌, take, refl, sym, ap, ◌∙◌, subst, inl, inr}
use Rattle.std.specs.Prelude.{◌==◌}
use Rattle.std.specs.List.{filter}
use Rattle.std.proofs.lemmas.Bool.{eqb-false, not-true, ne_eqb}
use Rattle.std.specs.declared.cmp.Ordering.TheVariants.{Less}
use Rattle.ann_defs.specs.declared.near.Near.{Near}
use Rattle.ann_defs.specs.Distance.{point}
use Rattle.ann_defs.specs.Ordered.{Has, ordered, IsBelow, Rises}
use Rattle.ann_defs.specs.Nearness.{near_cmp, near_of, all_near, ids_of, least}
use Rattle.ann_defs.specs.RobustPrune.{kept, stays, pruned_row}
use Rattle.ann_defs.specs.Laws.{outlives, row_by_least}
use Rattle.ann_defs.proofs.Order.{has_fold_new, has-map, below_has, ordered_is, Rises-fold_put}
use Rattle.ann_defs.proofs.NearOrder.{near_order}
use Rattle.ann_defs.proofs.Members.{has-mapped, has-filter, filter_has, and_both, both_and}
use Rattle.ann_defs.proofs.GoodRows.{not_less, listed_from, listed_right}

IsBelow-filter : (t : Near → Bool) (x : Near) (ys : List Near) → IsBelow near_cmp x ys → IsBelow near_cmp x (filter t ys)
IsBelow-filter t x [] h = tt
IsBelow-filter t x (y ∷ ys) h = elim (t y) as (λ b. IsBelow near_cmp x (cond b (y ∷ filter t ys) (filter t ys))) [ true ↦ (h.0, IsBelow-filter t x ys h.1) | false ↦ IsBelow-filter t x ys h.1 ]

pub Rises-filter : (t : Near → Bool) (ys : List Near) → Rises near_cmp ys → Rises near_cmp (filter t ys)
Rises-filter t [] h = tt
Rises-filter t (y ∷ ys) h = elim (t y) as (λ b. Rises near_cmp (cond b (y ∷ filter t ys) (filter t ys))) [ true ↦ (IsBelow-filter t y ys h.0, Rises-filter t ys h.1) | false ↦ Rises-filter t ys h.1 ]

module _ (points : List (List ℕ)) (p : ℕ) (set : List ℕ) (num den r : ℕ) where
  abbrev q : List ℕ
  q = point points p

  abbrev listed : List Near
  listed = ordered near_cmp (all_near points q set)

  module _ (c : Near) (xs : List Near) (e : listed ≡ c ∷ xs) where
    rises : Rises near_cmp (c ∷ xs)
    rises = subst (λ (l : List Near). Rises near_cmp l) e (Rises-fold_put near_cmp near_order [] (all_near points q set) tt)

    in_list : (z : Near) → Has (c ∷ xs) z → Has listed z
    in_list z h = subst (λ (l : List Near). Has l z) (sym e) h

    abbrev left : List ℕ
    left = filter (outlives points p num den c.id) set

    -- whoever outlives c is listed behind it
    outlives_listed : (z : Near) → Has (all_near points q left) z → Has (filter (stays points num den c.id) xs) z
    outlives_listed z h =
        let from = has-map (near_of points q) left z h in
        let parts = filter_has (outlives points p num den c.id) set from.0 from.1 in
        let both = and_both (not (from.0 == c.id)) (stays points num den c.id (near_of points q from.0)) parts.1 in
        let other = eqb-false from.0 c.id (not-true (from.0 == c.id) both.0) in
        let among : Has (c ∷ xs) z = subst (λ (l : List Near). Has l z) e (has_fold_new near_cmp near_order.exact [] (all_near points q set) z (subst (Has (all_near points q set)) from.2 (has-mapped (near_of points q) set from.0 parts.0))) in
        let behind : Has xs z = elim among as (λ _. Has xs z) [ inl k ↦ absurd (other (ap (λ (y : Near). y.id) (from.2 ∙ sym k))) | inr m ↦ m ] in
        has-filter (stays points num den c.id) xs z (ap (stays points num den c.id) (sym from.2) ∙ both.1) behind

    listed_outlives : (z : Near) → Has (filter (stays points num den c.id) xs) z → Has (all_near points q left) z
    listed_outlives z h =
        let parts = filter_has (stays points num den c.id) xs z h in
        let from = has-map (near_of points q) set z (listed_from points p set num den r z (in_list z (inr parts.0))) in
        let other : from.0 ≢ c.id = λ same.
        let twice : z ≡ c = sym from.2 ∙ ap (near_of points q) same ∙ sym (listed_right points p set num den r c (in_list c (inl refl))) in
        not_less c (subst (λ (y : Near). near_cmp c y ≡ Less) twice (below_has near_cmp near_order c z xs rises.0 parts.0)) in
        let stands : outlives points p num den c.id from.0 ≡ true =
        both_and (not (from.0 == c.id)) (stays points num den c.id (near_of points q from.0)) (ap not (ne_eqb from.0 c.id other)) (ap (stays points num den c.id) from.2 ∙ parts.1) in
        subst (Has (all_near points q left)) from.2 (has-mapped (near_of points q) left from.0 (has-filter (outlives points p num den c.id) set from.0 stands from.1))

    rest_is : ordered near_cmp (all_near points q left) ≡ filter (stays points num den c.id) xs
    rest_is = ordered_is near_cmp near_order (all_near points q left) (filter (stays points num den c.id) xs) (Rises-filter (stays points num den c.id) xs rises.1) outlives_listed listed_outlives

  by_least : (l : List Near) → listed ≡ l → ids_of (kept (stays points num den) (suc r) l) ≡ row_by_least points p set num den r (take 1 l)
  by_least [] e = refl
  by_least (c ∷ xs) e = ap (λ (l : List Near). c.id ∷ ids_of (kept (stays points num den) r l)) (sym (rest_is c xs e))

  pub prune_by_least : pruned_row points p set num den (suc r) ≡ row_by_least points p set num den r (least (all_near points (point points p) set) 1)
  prune_by_least = by_least listed refl
