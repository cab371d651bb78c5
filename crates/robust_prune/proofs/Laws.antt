-- What is kept is apart, and covers what is not kept.
use Rattle.std.proofs.Common.{◌≡◌, ◌≢◌, ℕ, zero, suc, ◌<◌, Bool, true, false, List, [], ◌∷◌, length, get_or, refl, sym, ap, ◌∙◌, subst, inl, inr, arith}
use Rattle.std.specs.Prelude.{◌⊎◌}
use Rattle.std.specs.List.{filter, All, Contains}
use Rattle.std.specs.List.Sorted.{IsPermutation}
use Rattle.std.proofs.lemmas.List.{get_or-map, length-map}
use Rattle.std.proofs.lemmas.List.Elements.{All-map}
use Rattle.std.proofs.lemmas.List.Sorted.{All-permutation, IsPermutation-sym, Contains-permutation}
use Rattle.ann_defs.specs.declared.near.Near.{Near}
use Rattle.ann_defs.specs.Distance.{dist_of, point}
use Rattle.ann_defs.specs.Ordered.{Has}
use Rattle.ann_defs.specs.Nearness.{near_of, ids_of}
use Rattle.ann_defs.specs.Graph.{IsGoodRow}
use Rattle.ann_defs.specs.RobustPrune.{kept, stays, spares, pruned_row}
use Rattle.ann_defs.proofs.Order.{All_has, Contains-from_has, has_from_Contains, has-map}
use Rattle.ann_defs.proofs.Members.{all_from_has, has-mapped, has-filter, filter_has}
use Rattle.ann_defs.proofs.GoodRows.{kept_has, prune_good}
use Rattle.robust_prune.specs.Candidates.{AreCandidates}
use Rattle.robust_prune.specs.Pruned.{leaves, IsPruned}

pub get_has : (xs : List Near) (j : ℕ) (d : Near) → j < length xs → Has xs (get_or xs j d)
get_has [] j d h = absurd (omega arith)
get_has (x ∷ xs) zero d h = inl refl
get_has (x ∷ xs) (suc j) d h = inr (get_has xs j d (omega arith))

module _ (beside : ℕ → Near → Bool) where
  -- an earlier one leaves a later one beside it
  pub kept_apart : (r : ℕ) (xs : List Near) (d : Near) (i j : ℕ) → i < j → j < length (kept beside r xs) → beside (get_or (kept beside r xs) i d).id (get_or (kept beside r xs) j d) ≡ true
  kept_apart zero xs d i j h k = absurd (omega arith)
  kept_apart (suc r) [] d i j h k = absurd (omega arith)
  kept_apart (suc r) (c ∷ xs) d i zero h k = absurd (omega arith)
  kept_apart (suc r) (c ∷ xs) d zero (suc j) h k =
      let rest = kept beside r (filter (beside c.id) xs) in
      let at : Has rest (get_or rest j d) = get_has rest j d (omega arith) in
      (filter_has (beside c.id) xs (get_or rest j d) (kept_has beside r (filter (beside c.id) xs) (get_or rest j d) at)).1
  kept_apart (suc r) (c ∷ xs) d (suc i) (suc j) h k = kept_apart r (filter (beside c.id) xs) d i j (omega arith) (omega arith)

  -- one that isn't kept is removed by one that is, where there is room left
  pub kept_covers : (r : ℕ) (xs : List Near) (z : Near) → Has xs z → length (kept beside r xs) < r → Has (kept beside r xs) z ⊎ ((c : Near) × Has (kept beside r xs) c × (beside c.id z ≡ false))
  kept_covers zero xs z h room = absurd (omega arith)
  kept_covers (suc r) [] z h room = absurd h
  kept_covers (suc r) (c ∷ xs) z h room =
      let rest = kept beside r (filter (beside c.id) xs) in
      elim h as (λ _. ((c ≡ z) ⊎ Has rest z) ⊎ ((k : Near) × ((c ≡ k) ⊎ Has rest k) × (beside k.id z ≡ false))) [
        | inl e ↦ inl (inl e)
        | inr m ↦ elim (beside c.id z) as (λ b. beside c.id z ≡ b → ((c ≡ z) ⊎ Has rest z) ⊎ ((k : Near) × ((c ≡ k) ⊎ Has rest k) × (beside k.id z ≡ false))) [
          | false ↦ λ e. inr (c, inl refl, e)
          | true ↦ λ e. elim (kept_covers r (filter (beside c.id) xs) z (has-filter (beside c.id) xs z e m) (omega arith)) as (λ _. ((c ≡ z) ⊎ Has rest z) ⊎ ((k : Near) × ((c ≡ k) ⊎ Has rest k) × (beside k.id z ≡ false))) [
            | inl k ↦ inl (inr k)
            | inr k ↦ inr (k.0, inr k.1, k.2)
          ]
        ] refl
      ]

module _ (points : List (List ℕ)) (p num den r : ℕ) (cands sorted : List Near) (are : AreCandidates points p cands) (moved : IsPermutation cands sorted) where
  abbrev beside : ℕ → Near → Bool
  beside = stays points num den

  abbrev row : List ℕ
  row = ids_of (kept beside r sorted)

  right : (z : Near) → Has sorted z → z ≡ near_of points (point points p) z.id
  right z h = All_has (λ x. x ≡ near_of points (point points p) x.id) sorted z (All-permutation (λ x. x ≡ near_of points (point points p) x.id) cands sorted moved are.near) h

  back : (z : Near) → Has sorted z → Has cands z
  back z h = has_from_Contains cands z (Contains-permutation sorted cands z (IsPermutation-sym cands sorted moved) (Contains-from_has sorted z h))

  forth : (z : Near) → Has cands z → Has sorted z
  forth z h = has_from_Contains sorted z (Contains-permutation cands sorted z moved (Contains-from_has cands z h))

  among : All (Contains (ids_of cands)) row
  among = all_from_has (Contains (ids_of cands)) row (λ u h.
      let from = has-map (λ (y : Near). y.id) (kept beside r sorted) u h in
      Contains-from_has (ids_of cands) u (subst (Has (ids_of cands)) from.2 (has-mapped (λ (y : Near). y.id) cands from.0 (back from.0 (kept_has beside r sorted from.0 from.1)))))

  right_dist : (z : Near) → Has sorted z → z.dist ≡ dist_of (point points p) (point points z.id)
  right_dist z h = ap (λ (y : Near). y.dist) (right z h)

  -- whether an id stays beside another is whether that one leaves it
  left_by : (c : ℕ) (z : Near) → Has sorted z → beside c z ≡ leaves points p num den c z.id
  left_by c z h = ap (spares num den (dist_of (point points c) (point points z.id))) (right_dist z h)

  apart : (i j : ℕ) → i < j → j < length row → leaves points p num den (get_or row i 0) (get_or row j 0) ≡ true
  apart i j h k =
      let none : Near = record { dist = 0; id = 0 } in
      let all = kept beside r sorted in
      let len : length row ≡ length all = length-map all (λ (y : Near). y.id) in
      let late : j < length all = omega arith in
      let early : i < length all = omega arith in
      let c = get_or all i none in
      let x = get_or all j none in
      let c_is : c.id ≡ get_or row i 0 = sym (get_or-map (λ (y : Near). y.id) all i none 0 early) in
      let x_is : x.id ≡ get_or row j 0 = sym (get_or-map (λ (y : Near). y.id) all j none 0 late) in
      sym (λ i. leaves points p num den (c_is i) (x_is i)) ∙ sym (left_by c.id x (kept_has beside r sorted x (get_has all j none late))) ∙ kept_apart beside r sorted none i j h late

  covers : (u : ℕ) (z : Near) → z.id ≡ u → Has sorted z → length row < r → Contains row u ⊎ ((c : ℕ) × Contains row c × (leaves points p num den c u ≡ false))
  covers u z e m room =
      let all = kept beside r sorted in
      let len : length row ≡ length all = length-map all (λ (y : Near). y.id) in
      let in_row : (y : Near) → Has all y → Contains row y.id = λ y h. Contains-from_has row y.id (has-mapped (λ (y : Near). y.id) all y h) in
      subst (λ u. Contains row u ⊎ ((c : ℕ) × Contains row c × (leaves points p num den c u ≡ false))) e
      (elim (kept_covers beside r sorted z m (omega arith)) as (λ _. Contains row z.id ⊎ ((c : ℕ) × Contains row c × (leaves points p num den c z.id ≡ false))) [
        | inl k ↦ inl (in_row z k)
        | inr k ↦ inr (k.0.id, in_row k.0 k.1, sym (left_by k.0.id z m) ∙ k.2)
      ])

  covered : length row < r → All (λ x. Contains row x ⊎ ((c : ℕ) × Contains row c × (leaves points p num den c x ≡ false))) (ids_of cands)
  covered room = all_from_has (λ x. Contains row x ⊎ ((c : ℕ) × Contains row c × (leaves points p num den c x ≡ false))) (ids_of cands) (λ u m.
      let from = has-map (λ (y : Near). y.id) cands u m in
      covers u from.0 from.2 (forth from.0 from.1) room)

  pub pruned : (out : List ℕ) → out ≡ row → IsPruned points p num den r (ids_of cands) out
  pruned out e = subst (IsPruned points p num den r (ids_of cands)) (sym e) (record { among = among; apart = apart; covered = covered })

-- the ids of candidates are points, and none is p
pub candidates_inside : (points : List (List ℕ)) (p : ℕ) (cands : List Near) → AreCandidates points p cands → All (λ u. u < length points) (ids_of cands)
candidates_inside points p cands are = All-map (λ u. u < length points) (λ (y : Near). y.id) cands are.in_range

pub candidates_others : (points : List (List ℕ)) (p : ℕ) (cands : List Near) → AreCandidates points p cands → All (λ u. u ≢ p) (ids_of cands)
candidates_others points p cands are = All-map (λ u. u ≢ p) (λ (y : Near). y.id) cands are.others

-- a prune of candidates gives a good row
pub pruned_good : (points : List (List ℕ)) (p num den r : ℕ) (cands : List Near) (out : List ℕ) → AreCandidates points p cands → out ≡ pruned_row points p (ids_of cands) num den r → IsGoodRow (length points) r p out
pruned_good points p num den r cands out are e =
    subst (IsGoodRow (length points) r p) (sym e) (prune_good points p (ids_of cands) num den r (length points)
    (λ u h. All_has (λ v. v < length points) (ids_of cands) u (candidates_inside points p cands are) h)
    (λ u h. All_has (λ v. v ≢ p) (ids_of cands) u (candidates_others points p cands are) h))
