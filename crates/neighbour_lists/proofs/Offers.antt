-- What is kept of what was offered.
use Rattle.std.proofs.Common.{◌≡◌, ℕ, zero, suc, ◌+◌, Bool, true, false, cond, not, List, [], ◌∷◌, ◌++◌, take, drop, length, refl, sym, ap, ◌∙◌, subst, inl, inr, arith}
use Rattle.std.specs.Prelude.{◌==◌, ◌⊎◌}
use Rattle.std.specs.List.{filter, fold}
use Rattle.std.proofs.lemmas.Bool.{cases_eq, eq-eqb, ne_eqb}
use Rattle.std.proofs.lemmas.List.{map-append, take-map, take-take, take_all, length-take, take-append-le}
use Rattle.std.proofs.lemmas.List.Sums.{fold-append}
use Rattle.ann_defs.specs.declared.near.Near.{Near}
use Rattle.ann_defs.specs.Distance.{point}
use Rattle.ann_defs.specs.Nearness.{near_cmp, near_of, all_near, ids_of}
use Rattle.ann_defs.specs.Ordered.{Has, Rises, put, ordered}
use Rattle.ann_defs.specs.Graph.{without}
use Rattle.ann_defs.proofs.Order.{take-fold_put, ordered_is, Rises-take, Rises-fold_put, fold_has, has_fold_new, has-map}
use Rattle.ann_defs.proofs.NearOrder.{near_order}
use Rattle.ann_defs.proofs.Members.{has-mapped, filter_has, has-filter, Once}
use Rattle.ann_defs.proofs.GoodRows.{rising_once}
use Rattle.ann_defs.proofs.LeastFirst.{Rises-filter}
use Rattle.near_lists.specs.Marks.{AreSettled}
use Rattle.neighbour_lists.specs.ListRound.{nearest_of}
use Rattle.neighbour_lists.specs.Offering.{Offers, IsOffered, HasOffered, kept_with}

-- ids that are offered after others
pub kept_more : (points : List (List ℕ)) (v most : ℕ) (kept : List Near) (xs ys : List ℕ) → kept_with points v most (kept_with points v most kept xs) ys ≡ kept_with points v most kept (xs ++ ys)
kept_more points v most kept xs ys =
    let near = all_near points (point points v) in
    take-fold_put near_cmp (most + 1) (fold (put near_cmp) kept (near xs)) (near ys)
    ∙ ap (take (most + 1)) (sym (fold-append (put near_cmp) kept (near xs) (near ys)))
    ∙ ap (λ (zs : List Near). take (most + 1) (fold (put near_cmp) kept zs)) (sym (map-append (near_of points (point points v)) xs ys))

-- nothing was offered yet
pub offered_none : (points : List (List ℕ)) (v : ℕ) (a : Offers) → IsOffered points v a → HasOffered points v [] a a
offered_none points v a h = record { kept = sym (take_all (a.most + 1) a.kept h.short); offered = h; most = refl; count = refl }

-- more was offered after that
pub offered_on : (points : List (List ℕ)) (v : ℕ) (xs ys : List ℕ) (a b c : Offers) → HasOffered points v xs a b → HasOffered points v ys b c → HasOffered points v (xs ++ ys) a c
offered_on points v xs ys a b c h k = record {
  kept =
      k.kept
      ∙ (λ i. kept_with points v (h.most i) (h.kept i) ys)
      ∙ kept_more points v a.most a.kept xs ys;
  offered = k.offered;
  most = k.most ∙ h.most;
  count = k.count ∙ h.count;
}

-- ids that are written another way
pub offered_same : (points : List (List ℕ)) (v : ℕ) (xs ys : List ℕ) (a b : Offers) → xs ≡ ys → HasOffered points v xs a b → HasOffered points v ys a b
offered_same points v xs ys a b e h = subst (λ zs. HasOffered points v zs a b) e h

-- an offer to what was offered so far
pub offered_now : (points : List (List ℕ)) (v : ℕ) (ids : List ℕ) (old new : Offers) → IsOffered points v old → new.kept ≡ kept_with points v old.most old.kept ids → AreSettled points (point points v) (old.most + 1) old.stamp new.kept new.marks → new.most ≡ old.most → new.stamp ≡ old.stamp → length new.marks ≡ length old.marks → HasOffered points v ids old new
offered_now points v ids old new h kept settled most stamp count = record {
  kept = kept;
  offered = record {
    rises = subst (Rises near_cmp) (sym kept) (Rises-take near_cmp (old.most + 1) (fold (put near_cmp) old.kept (all_near points (point points v) ids)) (Rises-fold_put near_cmp near_order old.kept (all_near points (point points v) ids) h.rises));
    short =
        let cut = length-take (old.most + 1) (fold (put near_cmp) old.kept (all_near points (point points v) ids)) in
        let long = ap (λ (xs : List Near). length xs) kept in
        omega (arith, cut, long, most);
    settled = subst (λ m. AreSettled points (point points v) (m + 1) new.stamp new.kept new.marks) (sym most) (subst (λ s. AreSettled points (point points v) (old.most + 1) s new.kept new.marks) (sym stamp) settled);
  };
  most = most;
  count = count;
}

-- what was written over a list as long
pub written_is : {X : Type 0} (n : ℕ) (written old : List X) → length written ≡ n → take n (written ++ drop (length written) old) ≡ written
written_is n written old e = take-append-le n written (drop (length written) old) (omega arith) ∙ take_all n written (omega arith)

-- one more than the nearest is enough to leave one out
without_none : (v : ℕ) (ys : List ℕ) → (Has ys v → ⊥) → without v ys ≡ ys
without_none v [] h = refl
without_none v (y ∷ ys) h =
    ap (λ b. cond (not b) (y ∷ without v ys) (without v ys)) (ne_eqb y v (λ e. h (inl e)))
    ∙ ap (λ (zs : List ℕ). y ∷ zs) (without_none v ys (λ m. h (inr m)))

has_front : (k : ℕ) (ys : List ℕ) (v : ℕ) → Has (take k ys) v → Has ys v
has_front zero ys v h = absurd h
has_front (suc k) [] v h = absurd h
has_front (suc k) (y ∷ ys) v h = elim h as (λ _. (y ≡ v) ⊎ Has ys v) [ inl e ↦ inl e | inr m ↦ inr (has_front k ys v m) ]

take_without : (v m : ℕ) (xs : List ℕ) → Once xs → take m (without v (take (suc m) xs)) ≡ take m (without v xs)
take_without v m [] o = refl
take_without v m (y ∷ ys) o =
    elim (cases_eq y v) as (λ _. take m (without v (y ∷ take m ys)) ≡ take m (without v (y ∷ ys))) [
      | inl e ↦
          let gone : Has ys v → ⊥ = λ h. o.0 (subst (Has ys) (sym e) h) in
          let is = eq-eqb y v e in
          ap (λ b. take m (cond (not b) (y ∷ without v (take m ys)) (without v (take m ys)))) is
          ∙ ap (take m) (without_none v (take m ys) (λ h. gone (has_front m ys v h)))
          ∙ take-take m m ys (omega arith)
          ∙ ap (take m) (sym (without_none v ys gone))
          ∙ ap (λ b. take m (cond (not b) (y ∷ without v ys) (without v ys))) (sym is)
      | inr ne ↦
          let is = ne_eqb y v ne in
          ap (λ b. take m (cond (not b) (y ∷ without v (take m ys)) (without v (take m ys)))) is
          ∙ more m (λ k. take_without v k ys o.1)
          ∙ ap (λ b. take m (cond (not b) (y ∷ without v ys) (without v ys))) (sym is)
    ]
  where
    more : (k : ℕ) → ((j : ℕ) → take j (without v (take (suc j) ys)) ≡ take j (without v ys)) → take k (y ∷ without v (take k ys)) ≡ take k (y ∷ without v ys)
    more zero rest = refl
    more (suc k) rest = ap (λ (zs : List ℕ). y ∷ zs) (rest k)

-- the ids of those other than v
ids_without : (v : ℕ) (xs : List Near) → without v (ids_of xs) ≡ ids_of (filter (λ (z : Near). not (z.id == v)) xs)
ids_without v [] = refl
ids_without v (x ∷ xs) =
    elim (x.id == v) as (λ b. cond (not b) (x.id ∷ without v (ids_of xs)) (without v (ids_of xs)) ≡ ids_of (cond (not b) (x ∷ filter (λ (z : Near). not (z.id == v)) xs) (filter (λ (z : Near). not (z.id == v)) xs))) [
      | true ↦ ids_without v xs
      | false ↦ ap (λ (zs : List ℕ). x.id ∷ zs) (ids_without v xs)
    ]

module _ (points : List (List ℕ)) (v : ℕ) (xs : List ℕ) where
  abbrev all : List Near
  all = ordered near_cmp (all_near points (point points v) xs)

  abbrev other : Near → Bool
  other z = not (z.id == v)

  all_rise : Rises near_cmp all
  all_rise = Rises-fold_put near_cmp near_order [] (all_near points (point points v) xs) tt

  from_all : (z : Near) → Has all z → Has (all_near points (point points v) xs) z
  from_all z h = elim (fold_has near_cmp [] (all_near points (point points v) xs) z h) as (λ _. Has (all_near points (point points v) xs) z) [ inl n ↦ absurd n | inr m ↦ m ]

  all_right : (z : Near) → Has all z → z ≡ near_of points (point points v) z.id
  all_right z h =
      let from = has-map (near_of points (point points v)) xs z (from_all z h) in
      sym from.2 ∙ ap (λ (y : Near). near_of points (point points v) y.id) from.2

  -- those other than v in order
  others_are : ordered near_cmp (all_near points (point points v) (without v xs)) ≡ filter other all
  others_are =
      ordered_is near_cmp near_order (all_near points (point points v) (without v xs)) (filter other all) (Rises-filter other all all_rise)
      (λ z h.
      let from = has-map (near_of points (point points v)) (without v xs) z h in
      let kept = filter_has (λ x. not (x == v)) xs from.0 from.1 in
      let there : Has (all_near points (point points v) xs) z = subst (Has (all_near points (point points v) xs)) from.2 (has-mapped (near_of points (point points v)) xs from.0 kept.0) in
      has-filter other all z (subst (λ (y : Near). other y ≡ true) from.2 kept.1) (has_fold_new near_cmp near_order.exact [] (all_near points (point points v) xs) z there))
      (λ z h.
      let kept = filter_has other all z h in
      let from = has-map (near_of points (point points v)) xs z (from_all z kept.0) in
      let apart : not (from.0 == v) ≡ true = subst (λ (y : Near). other y ≡ true) (sym from.2) kept.1 in
      subst (Has (all_near points (point points v) (without v xs))) from.2 (has-mapped (near_of points (point points v)) (without v xs) from.0 (has-filter (λ x. not (x == v)) xs from.0 apart from.1)))

  -- what is written of what was offered from nothing on
  pub written_nearest : (most : ℕ) (kept : List Near) → kept ≡ kept_with points v most [] xs → take most (without v (ids_of kept)) ≡ nearest_of points most v xs
  written_nearest most kept is =
      let one : most + 1 ≡ suc most = omega arith in
      ap (λ (zs : List Near). take most (without v (ids_of zs))) (is ∙ ap (λ k. take k all) one)
      ∙ ap (λ (zs : List ℕ). take most (without v zs)) (sym (take-map (λ (z : Near). z.id) (suc most) all))
      ∙ take_without v most (ids_of all) (rising_once points (point points v) all all_rise all_right)
      ∙ ap (take most) (ids_without v all ∙ ap (λ (zs : List Near). ids_of zs) (sym others_are))
      ∙ take-map (λ (z : Near). z.id) most (ordered near_cmp (all_near points (point points v) (without v xs)))

-- what is written once all were offered to a scratch that had begun
pub finished : (points : List (List ℕ)) (v most : ℕ) (xs : List ℕ) (a b : Offers) (out : List ℕ) → a.kept ≡ [] → a.most ≡ most → HasOffered points v xs a b → out ≡ take b.most (without v (ids_of b.kept)) → out ≡ nearest_of points most v xs
finished points v most xs a b out none room h is =
    let limit : b.most ≡ most = h.most ∙ room in
    is
    ∙ ap (λ k. take k (without v (ids_of b.kept))) limit
    ∙ written_nearest points v xs most b.kept (h.kept ∙ (λ i. kept_with points v (room i) (none i) xs))
