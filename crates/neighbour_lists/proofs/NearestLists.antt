-- Lists of the nearest of some ids.
use Rattle.std.proofs.Common.{◌≡◌, ◌≢◌, ℕ, zero, suc, ◌<◌, true, not, List, [], ◌∷◌, map, take, replicate, length, refl, sym, ap, ◌∙◌, subst, inl, inr, arith}
use Rattle.std.specs.Prelude.{◌==◌}
use Rattle.std.specs.List.{range_with_len}
use Rattle.std.proofs.lemmas.Bool.{ne_eqb}
use Rattle.std.proofs.lemmas.List.{take-take, get_or-replicate, length-replicate}
use Rattle.std.proofs.lemmas.List.Elements.{All-weaker}
use Rattle.std.proofs.lemmas.List.FromFn.{length-map-range_with_len, get_or-map-range_with_len}
use Rattle.ann_defs.specs.declared.near.Near.{Near}
use Rattle.ann_defs.specs.Distance.{point}
use Rattle.ann_defs.specs.Graph.{without, row_in, IsGoodRow}
use Rattle.ann_defs.specs.Nearness.{near_cmp, near_of, all_near, ids_of, least}
use Rattle.ann_defs.specs.Ordered.{Has, Rises, ordered}
use Rattle.ann_defs.proofs.GoodRows.{listed_right}
use Rattle.ann_defs.proofs.NearOrder.{near_order}
use Rattle.ann_defs.proofs.Order.{Rises-fold_put, Rises-take, ordered_rising, has-take}
use Rattle.batch_insert.proofs.Grouping.{filter_each}
use Rattle.robust_prune.specs.Nearest.{nearest_without_good}
use Rattle.neighbour_lists.specs.Held.{ArePointLists}
use Rattle.neighbour_lists.specs.ListRound.{nearest_of}

-- ids that are right with their distances are these again
pub near_ids : (points : List (List ℕ)) (query : List ℕ) (xs : List Near) → ((z : Near) → Has xs z → z ≡ near_of points query z.id) → all_near points query (ids_of xs) ≡ xs
near_ids points query [] right = refl
near_ids points query (x ∷ xs) right =
    let rest = near_ids points query xs (λ z h. right z (inr h)) in
    let here = right x (inl refl) in
    λ i. sym here i ∷ rest i

pub nearest_is_good : (points : List (List ℕ)) (list v : ℕ) (ids : List ℕ) → ((u : ℕ) → Has ids u → u < length points) → IsGoodRow (length points) list v (nearest_of points list v ids)
nearest_is_good points list v ids inside = nearest_without_good points v ids list inside

-- the nearest of the nearest are these
pub nearest_again : (points : List (List ℕ)) (list v : ℕ) (ids : List ℕ) → ((u : ℕ) → Has ids u → u < length points) → nearest_of points list v (nearest_of points list v ids) ≡ nearest_of points list v ids
nearest_again points list v ids inside =
    let q = point points v in
    let all = ordered near_cmp (all_near points q (without v ids)) in
    let kept = take list all in
    let row = nearest_of points list v ids in
    let others : without v row ≡ row = filter_each (λ x. not (x == v)) row (All-weaker (λ u. u ≢ v) (λ x. not (x == v) ≡ true) (λ x h. ap not (ne_eqb x v h)) row (nearest_is_good points list v ids inside).others) in
    let same : all_near points q row ≡ kept = near_ids points q kept (λ z h. listed_right points v (without v ids) 1 1 list z (has-take list all z h)) in
    let up : Rises near_cmp kept = Rises-take near_cmp list all (Rises-fold_put near_cmp near_order [] (all_near points q (without v ids)) tt) in
    ap (λ (xs : List ℕ). ids_of (least (all_near points q xs) list)) others
    ∙ ap (λ (xs : List Near). ids_of (least xs list)) same
    ∙ ap (λ (xs : List Near). ids_of (take list xs)) (ordered_rising near_cmp near_order kept up)
    ∙ ap (λ (xs : List Near). ids_of xs) (take-take list list all (omega arith))

-- lists of the nearest of points
module _ (points : List (List ℕ)) (list : ℕ) (from : ℕ → List ℕ) (inside : (v u : ℕ) → v < length points → Has (from v) u → u < length points) where
  abbrev pub lists_from : List (List ℕ)
  lists_from = map (λ v. nearest_of points list v (from v)) (range_with_len 0 (length points))

  pub list_from : (v : ℕ) → v < length points → row_in lists_from v ≡ nearest_of points list v (from v)
  list_from v below = get_or-map-range_with_len (λ v. nearest_of points list v (from v)) 0 (length points) v v [] below (omega arith)

  pub nearest_lists : ArePointLists points list lists_from
  nearest_lists = record {
    good = record {
      count = length-map-range_with_len (λ v. nearest_of points list v (from v)) 0 (length points);
      good = λ v below. subst (IsGoodRow (length points) list v) (sym (list_from v below)) (nearest_is_good points list v (from v) (λ u h. inside v u below h));
    };
    near = λ v below.
        ap (nearest_of points list v) (list_from v below)
        ∙ nearest_again points list v (from v) (λ u h. inside v u below h)
        ∙ sym (list_from v below);
  }

nearest_none : (points : List (List ℕ)) (list v : ℕ) → nearest_of points list v [] ≡ []
nearest_none points zero v = refl
nearest_none points (suc list) v = refl

-- empty lists
pub empty_lists : (points : List (List ℕ)) (list : ℕ) → ArePointLists points list (replicate (length points) [])
empty_lists points list =
    let n = length points in
    let none : (v : ℕ) → v < n → row_in (replicate n []) v ≡ [] = λ v below. get_or-replicate n v [] [] below in
    record {
      good = record {
        count = length-replicate {A = List ℕ} n [];
        good = λ v below. subst (IsGoodRow n list v) (sym (none v below)) (subst (IsGoodRow n list v) (nearest_none points list v) (nearest_is_good points list v [] (λ u h. absurd h)));
      };
      near = λ v below. ap (nearest_of points list v) (none v below) ∙ nearest_none points list v ∙ sym (none v below);
    }
