-- Prunes and merges give good rows.
use Rattle.std.proofs.Common.{◌≡◌, ◌≢◌, ℕ, zero, suc, ◌<◌, ◌≤◌, Bool, true, false, cond, not, List, [], ◌∷◌, ◌++◌, length, refl, sym, ap, ◌∙◌, subst, inl, inr, arith}
use Rattle.std.specs.Prelude.{◌==◌, ◌⊎◌, nat_eq, nat_le}
use Rattle.std.specs.List.{filter, All, IsDistinct}
use Rattle.std.specs.declared.cmp.Ordering.TheVariants.{Less, Greater}
use Rattle.std.specs.Ordering.{ordering_reverse}
use Rattle.std.proofs.lemmas.Bool.{eqb-false, not-true, true≢false, leb-true}
use Rattle.std.proofs.lemmas.List.{length-map}
use Rattle.std.proofs.lemmas.List.Elements.{All-append, All-filter}
use Rattle.ann_defs.specs.declared.near.Near.{Near}
use Rattle.ann_defs.specs.Distance.{point}
use Rattle.ann_defs.specs.Ordered.{ordered}
use Rattle.ann_defs.specs.Nearness.{near_cmp, near_of, all_near, ids_of}
use Rattle.ann_defs.specs.RobustPrune.{kept, stays, pruned_row}
use Rattle.ann_defs.specs.Graph.{has, without}
use Rattle.ann_defs.specs.BatchInsert.{merge_with}
use Rattle.ann_defs.specs.Ordered.{Has, Rises}
use Rattle.ann_defs.proofs.Order.{Rises-fold_put, fold_has, has-map, All_has, below_has}
use Rattle.ann_defs.proofs.NearOrder.{near_order}
use Rattle.ann_defs.specs.Graph.{IsGoodRow}
use Rattle.ann_defs.proofs.Members.{all_from_has, has-mapped, filter_has, true_has, Once, once_distinct, distinct_once, Once-filter, Once-append}

module _ (beside : ℕ → Near → Bool) where
  pub kept_has : (r : ℕ) (xs : List Near) (z : Near) → Has (kept beside r xs) z → Has xs z
  kept_has zero xs z h = absurd h
  kept_has (suc r) [] z h = absurd h
  kept_has (suc r) (c ∷ xs) z h =
      elim h as (λ _. (c ≡ z) ⊎ Has xs z) [ inl e ↦ inl e | inr m ↦ inr (filter_has (beside c.id) xs z (kept_has r (filter (beside c.id) xs) z m)).0 ]

  pub kept_short : (r : ℕ) (xs : List Near) → length (kept beside r xs) ≤ r
  kept_short zero xs = omega arith
  kept_short (suc r) [] = omega arith
  kept_short (suc r) (c ∷ xs) = let rest = kept_short r (filter (beside c.id) xs) in omega arith

  ids_filter : (t : Near → Bool) (xs : List Near) → Once (ids_of xs) → Once (ids_of (filter t xs))
  ids_filter t [] h = tt
  ids_filter t (x ∷ xs) h =
      elim (t x) as (λ b. Once (ids_of (cond b (x ∷ filter t xs) (filter t xs)))) [
        | true ↦ (
          λ m. let from = has-map (λ (y : Near). y.id) (filter t xs) x.id m in
              h.0 (subst (Has (ids_of xs)) from.2 (has-mapped (λ (y : Near). y.id) xs from.0 (filter_has t xs from.0 from.1).0)),
          ids_filter t xs h.1,
        )
        | false ↦ ids_filter t xs h.1
      ]

  pub kept_once : (r : ℕ) (xs : List Near) → Once (ids_of xs) → Once (ids_of (kept beside r xs))
  kept_once zero xs h = tt
  kept_once (suc r) [] h = tt
  kept_once (suc r) (c ∷ xs) h = (
    λ m. let from = has-map (λ (y : Near). y.id) (kept beside r (filter (beside c.id) xs)) c.id m in
        let within = filter_has (beside c.id) xs from.0 (kept_has r (filter (beside c.id) xs) from.0 from.1) in
        h.0 (subst (Has (ids_of xs)) from.2 (has-mapped (λ (y : Near). y.id) xs from.0 within.0)),
    kept_once r (filter (beside c.id) xs) (ids_filter (beside c.id) xs h.1),
  )

-- nothing comes before itself
pub not_less : (x : Near) → near_cmp x x ≡ Less → ⊥
not_less x e = let back : near_cmp x x ≡ ordering_reverse (near_cmp x x) = near_order.total.antisymm x x in
    let turned : Less ≡ Greater = sym e ∙ back ∙ ap ordering_reverse e in cc

-- in order and with right distances, each id stands once
pub rising_once : (points : List (List ℕ)) (q : List ℕ) (xs : List Near) → Rises near_cmp xs → ((z : Near) → Has xs z → z ≡ near_of points q z.id) → Once (ids_of xs)
rising_once points q [] h right = tt
rising_once points q (x ∷ xs) h right = (
  λ m. let from = has-map (λ (y : Near). y.id) xs x.id m in
      let same : from.0 ≡ x = right from.0 (inr from.1) ∙ ap (near_of points q) from.2 ∙ sym (right x (inl refl)) in
      not_less x (subst (λ (y : Near). near_cmp x y ≡ Less) same (below_has near_cmp near_order x from.0 xs h.0 from.1)),
  rising_once points q xs h.1 (λ z k. right z (inr k)),
)

module _ (points : List (List ℕ)) (p : ℕ) (set : List ℕ) (num den r : ℕ) where
  abbrev q : List ℕ
  q = point points p

  abbrev listed : List Near
  listed = ordered near_cmp (all_near points q set)

  pub listed_from : (z : Near) → Has listed z → Has (all_near points q set) z
  listed_from z h = elim (fold_has near_cmp [] (all_near points q set) z h) as (λ _. Has (all_near points q set) z) [ inl n ↦ absurd n | inr m ↦ m ]

  -- what is listed has its right distance
  pub listed_right : (z : Near) → Has listed z → z ≡ near_of points q z.id
  listed_right z h = let from = has-map (near_of points q) set z (listed_from z h) in
      sym from.2 ∙ ap (λ (y : Near). near_of points q y.id) from.2

  -- a prune has members of its set
  pub prune_has : (u : ℕ) → Has (pruned_row points p set num den r) u → Has set u
  prune_has u h =
      let from = has-map (λ (y : Near). y.id) (kept (stays points num den) r listed) u h in
      let item = has-map (near_of points q) set from.0 (listed_from from.0 (kept_has (stays points num den) r listed from.0 from.1)) in
      subst (Has set) (ap (λ (y : Near). y.id) item.2 ∙ from.2) item.1

  pub prune_good : (n : ℕ) → ((u : ℕ) → Has set u → u < n) → ((u : ℕ) → Has set u → u ≢ p) → IsGoodRow n r p (pruned_row points p set num den r)
  prune_good n inside others = record {
    inside = all_from_has (λ v. v < n) (pruned_row points p set num den r) (λ u h. inside u (prune_has u h));
    distinct = distinct_once (pruned_row points p set num den r) (kept_once (stays points num den) r listed (rising_once points q listed (Rises-fold_put near_cmp near_order [] (all_near points q set) tt) listed_right));
    others = all_from_has (λ v. v ≢ p) (pruned_row points p set num den r) (λ u h. others u (prune_has u h));
    short = let short = kept_short (stays points num den) r listed in rw (length-map (kept (stays points num den) r listed) (λ (y : Near). y.id)) short;
  }

-- a prune without p
pub prune_without_good : (points : List (List ℕ)) (p : ℕ) (set : List ℕ) (num den r n : ℕ) → ((u : ℕ) → Has set u → u < n) → IsGoodRow n r p (pruned_row points p (without p set) num den r)
prune_without_good points p set num den r n inside =
    prune_good points p (without p set) num den r n
    (λ u h. inside u (filter_has (λ x. not (x == p)) set u h).0)
    (λ u h. eqb-false u p (not-true (u == p) (filter_has (λ x. not (x == p)) set u h).1))

abbrev pub added_to : List ℕ → List ℕ → List ℕ
added_to row sources = row ++ filter (λ s. not (has row s)) sources

pub added_once : (row sources : List ℕ) → IsDistinct nat_eq row → IsDistinct nat_eq sources → Once (added_to row sources)
added_once row sources h k =
    Once-append row (filter (λ s. not (has row s)) sources) (once_distinct row h) (Once-filter (λ s. not (has row s)) sources (once_distinct sources k))
    (λ z a b. true≢false (sym (true_has row z a) ∙ not-true (has row z) (filter_has (λ s. not (has row s)) sources z b).1))

-- a merge keeps a row good, by any prune that gives good rows
pub merged_good : (n bound t most : ℕ) (prune : ℕ → List ℕ → List ℕ) (row sources : List ℕ) → ((set : List ℕ) → ((u : ℕ) → Has set u → u < n) → IsGoodRow n bound t (prune t (without t set)))
    → IsGoodRow n most t row → All (λ v. v < n) sources → IsDistinct nat_eq sources → All (λ v. v ≢ t) sources → IsGoodRow n bound t (merge_with prune bound t row sources)
merged_good n bound t most prune row sources prunes g inside distinct others =
    let added = added_to row sources in
    let below : All (λ v. v < n) added = All-append (λ v. v < n) row (filter (λ s. not (has row s)) sources) g.inside (All-filter (λ s. not (has row s)) (λ v. v < n) sources inside) in
    elim (nat_le (length added) bound) as (λ c. nat_le (length added) bound ≡ c → IsGoodRow n bound t (cond c added (prune t (without t added)))) [
      | true ↦ λ e. record {
        inside = below;
        distinct = distinct_once added (added_once row sources g.distinct distinct);
        others = All-append (λ v. v ≢ t) row (filter (λ s. not (has row s)) sources) g.others (All-filter (λ s. not (has row s)) (λ v. v ≢ t) sources others);
        short = leb-true (length added) bound e;
      }
      | false ↦ λ _. prunes added (λ u h. All_has (λ v. v < n) added u below h)
    ] refl
