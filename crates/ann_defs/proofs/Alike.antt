-- Where two lists have the same members, the definitions don't tell them apart.
use Rattle.std.proofs.Common.{◌≡◌, ℕ, zero, suc, Some, None, List, [], ◌∷◌, ◌++◌, take, length, refl, sym, ap, ◌∙◌, subst, inl, inr}
use Rattle.std.specs.Prelude.{◌⊎◌}
use Rattle.std.specs.Option.{option_map_or}
use Rattle.ann_defs.specs.declared.near.Near.{Near}
use Rattle.ann_defs.specs.Distance.{point}
use Rattle.ann_defs.specs.Ordered.{Has, ordered}
use Rattle.ann_defs.specs.Nearness.{near_cmp, near_of, all_near, ids_of, least}
use Rattle.ann_defs.specs.GreedySearch.{Walk, next_of, visit, walk, start_of, search_of}
use Rattle.ann_defs.specs.RobustPrune.{kept, stays, pruned_row}
use Rattle.ann_defs.specs.Laws.{AreAlike}
use Rattle.ann_defs.proofs.Order.{fold_has, has_fold_new, has-map, ordered_is, Rises-fold_put}
use Rattle.ann_defs.proofs.NearOrder.{near_order}
use Rattle.ann_defs.proofs.Members.{has-mapped, has-append, append-has, has_true, true_has}

pub alike_has : (xs ys : List ℕ) → AreAlike xs ys → (u : ℕ) → Has xs u → Has ys u
alike_has xs ys a u h = has_true ys u (sym (a u) ∙ true_has xs u h)

pub alike_back : (xs ys : List ℕ) → AreAlike xs ys → AreAlike ys xs
alike_back xs ys a u = sym (a u)

-- only the elements count in what is ordered
pub same_ordered : (xs ys : List Near) → ((z : Near) → Has xs z → Has ys z) → ((z : Near) → Has ys z → Has xs z) → ordered near_cmp xs ≡ ordered near_cmp ys
same_ordered xs ys p q =
    ordered_is near_cmp near_order xs (ordered near_cmp ys) (Rises-fold_put near_cmp near_order [] ys tt)
    (λ z h. has_fold_new near_cmp near_order.exact [] ys z (p z h))
    (λ z h. q z (elim (fold_has near_cmp [] ys z h) as (λ _. Has ys z) [ inl n ↦ absurd n | inr m ↦ m ]))

module _ (points : List (List ℕ)) (query : List ℕ) where
  near_has : (xs ys : List ℕ) → AreAlike xs ys → (z : Near) → Has (all_near points query xs) z → Has (all_near points query ys) z
  near_has xs ys a z h =
      let from = has-map (near_of points query) xs z h in
      subst (Has (all_near points query ys)) from.2 (has-mapped (near_of points query) ys from.0 (alike_has xs ys a from.0 from.1))

  pub ordered_alike : (xs ys : List ℕ) → AreAlike xs ys → ordered near_cmp (all_near points query xs) ≡ ordered near_cmp (all_near points query ys)
  ordered_alike xs ys a = same_ordered (all_near points query xs) (all_near points query ys) (near_has xs ys a) (near_has ys xs (alike_back xs ys a))

  joined_has : (w : List Near) (xs ys : List ℕ) → AreAlike xs ys → (z : Near) → Has (w ++ all_near points query xs) z → Has (w ++ all_near points query ys) z
  joined_has w xs ys a z h =
      append-has w (all_near points query ys) z
      (elim (has-append w (all_near points query xs) z h) as (λ _. Has w z ⊎ Has (all_near points query ys) z) [
        | inl m ↦ inl m
        | inr m ↦ inr (near_has xs ys a z m)
      ])

  -- the same beside what was found
  pub joined_alike : (w : List Near) (xs ys : List ℕ) → AreAlike xs ys → ordered near_cmp (w ++ all_near points query xs) ≡ ordered near_cmp (w ++ all_near points query ys)
  joined_alike w xs ys a = same_ordered (w ++ all_near points query xs) (w ++ all_near points query ys) (joined_has w xs ys a) (joined_has w ys xs (alike_back xs ys a))

  pub least_alike : (xs ys : List ℕ) (k : ℕ) → AreAlike xs ys → least (all_near points query xs) k ≡ least (all_near points query ys) k
  least_alike xs ys k a = ap (take k) (ordered_alike xs ys a)

  module _ (row other : ℕ → List ℕ) (beam : ℕ) (same : (u : ℕ) → AreAlike (row u) (other u)) where
    visit_alike : (w : Walk) (p : Near) → visit points row query beam w p ≡ visit points other query beam w p
    visit_alike w p =
        let e : least (w.found ++ all_near points query (row p.id)) beam ≡ least (w.found ++ all_near points query (other p.id)) beam =
        ap (take beam) (joined_alike w.found (row p.id) (other p.id) (same p.id)) in
        λ i. record { found = e i; visited = w.visited ++ p ∷ [] }

    walk_alike : (k : ℕ) (w : Walk) → walk points row query beam k w ≡ walk points other query beam k w
    walk_alike zero w = refl
    walk_alike (suc k) w =
        elim (next_of w) as (λ o. option_map_or (λ p. walk points row query beam k (visit points row query beam w p)) o w ≡ option_map_or (λ p. walk points other query beam k (visit points other query beam w p)) o w) [
          | None ↦ refl
          | Some p ↦ walk_alike k (visit points row query beam w p) ∙ ap (walk points other query beam k) (visit_alike w p)
        ]

    start_alike : (starts others : List ℕ) → AreAlike starts others → start_of points row query beam starts ≡ start_of points other query beam others
    start_alike starts others a =
        let e : least (all_near points query starts) beam ≡ least (all_near points query others) beam = least_alike starts others beam a in
        λ i. record { found = e i; visited = [] }

    pub search_alike : (starts others : List ℕ) → AreAlike starts others → search_of points row query beam starts ≡ search_of points other query beam others
    search_alike starts others a =
        walk_alike (length points) (start_of points row query beam starts)
        ∙ ap (walk points other query beam (length points)) (start_alike starts others a)

pub prune_alike : (points : List (List ℕ)) (p : ℕ) (xs ys : List ℕ) (num den degree : ℕ) → AreAlike xs ys → pruned_row points p xs num den degree ≡ pruned_row points p ys num den degree
prune_alike points p xs ys num den degree a = ap (λ (l : List Near). ids_of (kept (stays points num den) degree l)) (ordered_alike points (point points p) xs ys a)
