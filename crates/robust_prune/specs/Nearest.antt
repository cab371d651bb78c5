-- The nearest of a point's candidates.
use Rattle.std.specs.Prelude.{not, ◌==◌, ◌≡◌, ◌≢◌, ℕ, ◌<◌, ◌≤◌, List, ◌∷◌, [], length, take, zero, suc}
use Rattle.std.specs.List.{All}
use Rattle.std.proofs.Common.{ap, subst, ◌∙◌, arith}
use Rattle.std.proofs.lemmas.Bool.{eqb-false, not-true}
use Rattle.std.proofs.lemmas.List.{length-map}
use Rattle.ann_defs.specs.declared.near.Near.{Near}
use Rattle.ann_defs.specs.Distance.{point}
use Rattle.ann_defs.specs.Nearness.{near_cmp, near_of, all_near, ids_of, least}
use Rattle.ann_defs.specs.Ordered.{ordered, Has}
use Rattle.ann_defs.specs.Graph.{without, IsGoodRow}
use Rattle.ann_defs.specs.Laws.{AreAlike}
use Rattle.ann_defs.proofs.Alike.{least_alike}
use Rattle.ann_defs.proofs.Order.{Rises-fold_put, has-take, has-map, All_has}
use Rattle.ann_defs.proofs.NearOrder.{near_order}
use Rattle.ann_defs.proofs.Members.{all_from_has, filter_has, has-mapped, distinct_once, Once}
use Rattle.ann_defs.proofs.GoodRows.{rising_once, listed_right, listed_from}

-- the nearest of the set to p, at most r, nearest first
abbrev pub nearest_row : List (List ℕ) → ℕ → List ℕ → ℕ → List ℕ
nearest_row points p set r = ids_of (least (all_near points (point points p) set) r)

-- only the members of the set count
pub nearest_alike : (points : List (List ℕ)) (p r : ℕ) (xs ys : List ℕ) → AreAlike xs ys → nearest_row points p xs r ≡ nearest_row points p ys r
nearest_alike points p r xs ys same = ap (λ (zs : List Near). ids_of zs) (least_alike points (point points p) xs ys r same)

take_once : (k : ℕ) (xs : List Near) → Once (ids_of xs) → Once (ids_of (take k xs))
take_once zero xs h = tt
take_once (suc k) [] h = tt
take_once (suc k) (x ∷ xs) h = (
  λ m. let from = has-map (λ (y : Near). y.id) (take k xs) x.id m in
      h.0 (subst (Has (ids_of xs)) from.2 (has-mapped (λ (y : Near). y.id) xs from.0 (has-take k xs from.0 from.1))),
  take_once k xs h.1,
)

take_short : (k : ℕ) (xs : List Near) → length (take k xs) ≤ k
take_short zero xs = omega arith
take_short (suc k) [] = omega arith
take_short (suc k) (x ∷ xs) = let rest = take_short k xs in omega arith

module _ (points : List (List ℕ)) (p : ℕ) (set : List ℕ) (r : ℕ) where
  abbrev all : List Near
  all = ordered near_cmp (all_near points (point points p) set)

  row_has : (u : ℕ) → Has (nearest_row points p set r) u → Has set u
  row_has u h =
      let from = has-map (λ (y : Near). y.id) (take r all) u h in
      let item = has-map (near_of points (point points p)) set from.0 (listed_from points p set 1 1 r from.0 (has-take r all from.0 from.1)) in
      subst (Has set) (ap (λ (y : Near). y.id) item.2 ∙ from.2) item.1

  -- of points other than p comes a good row
  pub nearest_good : All (λ u. u < length points) set → All (λ u. u ≢ p) set → IsGoodRow (length points) r p (nearest_row points p set r)
  nearest_good inside others = record {
    inside = all_from_has (λ v. v < length points) (nearest_row points p set r) (λ u h. All_has (λ v. v < length points) set u inside (row_has u h));
    distinct = distinct_once (nearest_row points p set r) (take_once r all (rising_once points (point points p) all (Rises-fold_put near_cmp near_order [] (all_near points (point points p) set) tt) (listed_right points p set 1 1 r)));
    others = all_from_has (λ v. v ≢ p) (nearest_row points p set r) (λ u h. All_has (λ v. v ≢ p) set u others (row_has u h));
    short = let short = take_short r all in rw (length-map (take r all) (λ (y : Near). y.id)) short;
  }

-- of any points without p comes a good row
pub nearest_without_good : (points : List (List ℕ)) (p : ℕ) (set : List ℕ) (r : ℕ) → ((u : ℕ) → Has set u → u < length points) → IsGoodRow (length points) r p (nearest_row points p (without p set) r)
nearest_without_good points p set r inside =
    nearest_good points p (without p set) r
    (all_from_has (λ u. u < length points) (without p set) (λ u h. inside u (filter_has (λ x. not (x == p)) set u h).0))
    (all_from_has (λ u. u ≢ p) (without p set) (λ u h. eqb-false u p (not-true (u == p) (filter_has (λ x. not (x == p)) set u h).1)))
