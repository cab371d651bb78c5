-- Ids in the order of their keys, and of two equal keys the smaller id first.
use Rattle.std.proofs.Common.{◌≡◌, ◌≢◌, ℕ, zero, suc, ◌+◌, ◌<◌, ◌≤◌, true, false, cond, List, [], ◌∷◌, map, length, get_or, refl, sym, ap, ◌∙◌, subst, inl, inr, arith}
use Rattle.std.specs.Prelude.{◌==◌}
use Rattle.std.specs.List.{fold, All, range_with_len}
use Rattle.std.specs.List.Sorted.{IsPermutation, IsSorted}
use Rattle.std.specs.declared.cmp.Ordering.{Ordering}
use Rattle.std.specs.declared.cmp.Ordering.TheVariants.{Less, Equal, Greater}
use Rattle.std.specs.Ordering.{nat_cmp, ordering_then, match_ordering, ordering_reverse, is_lt}
use Rattle.std.proofs.lemmas.Cmp.{on_total, then_total, nat_cmp_total}
use Rattle.std.proofs.lemmas.Map.Lookups.{exact_pairs, exact_unsigned}
use Rattle.std.proofs.lemmas.List.{length-map, get_or-map}
use Rattle.std.proofs.lemmas.List.Elements.{All-head, All-tail, All-map, recursion_from_All}
use Rattle.std.proofs.lemmas.List.FromFn.{length-range_with_len}
use Rattle.std.proofs.lemmas.List.Sorted.{All-permutation, IsPermutation-map, IsPermutation-sym, Contains-permutation, sum_by-IsPermutation, ranks_by, sorted_far}
use Rattle.ann_defs.specs.Ordered.{Has, put, ordered, Rises}
use Rattle.ann_defs.proofs.Order.{IsExactOrder, Contains-from_has, has_from_Contains, put_has, fold_has, has_fold_new, Rises-fold_put, ordered_is, below_has}
use Rattle.ann_defs.proofs.Members.{Once}
use Rattle.seeded_order.proofs.Counts.{count_most, once_counted, range_has, has_range, range_once}

module _ {K : Type 0} (R : K → K → Ordering) (o : IsExactOrder R) where
  less_itself : (x : K) → R x x ≡ Less → ⊥
  less_itself x e =
      let back : R x x ≡ ordering_reverse (R x x) = o.total.antisymm x x in
      let turned : Less ≡ Greater = sym e ∙ back ∙ ap ordering_reverse e in cc

  pub rising_once : (xs : List K) → Rises R xs → Once xs
  rising_once [] h = tt
  rising_once (x ∷ xs) h = (λ m. less_itself x (below_has R o x x xs h.0 m), rising_once xs h.1)

  -- a list in order that has each once rises
  less_from : (x y : K) → is_lt (R y x) ≡ false → x ≢ y → R x y ≡ Less
  less_from x y h apart =
      elim (R x y) as (λ r. R x y ≡ r → r ≡ Less) [
        | Less ↦ λ _. refl
        | Equal ↦ λ e. absurd (apart (o.exact x y e))
        | Greater ↦ λ e.
            let less : R y x ≡ Less = o.total.antisymm y x ∙ ap ordering_reverse e in
            let both : true ≡ false = sym (ap is_lt less) ∙ h in cc
      ] refl

  far_rises : (xs : List K) → ((i j : ℕ) (d : K) → i ≤ j → j < length xs → is_lt (R (get_or xs j d) (get_or xs i d)) ≡ false) → Once xs → Rises R xs
  far_rises [] far once = tt
  far_rises (x ∷ xs) far once = (
    recursion_from_All (λ y. R x y ≡ Less) xs (λ k d h.
        less_from x (get_or xs k d) (far 0 (suc k) d (omega arith) (omega arith))
        (λ e. once.0 (has_from_Contains xs x (k, h, at_itself xs k d x h (sym e))))),
    far_rises xs (λ i j d le h. far (suc i) (suc j) d (omega arith) (omega arith)) once.1,
  )
    where
      at_itself : {K : Type 0} (xs : List K) (k : ℕ) (d x : K) → k < length xs → get_or xs k d ≡ x → get_or xs k x ≡ x
      at_itself [] k d x h e = absurd (omega arith)
      at_itself (y ∷ ys) zero d x h e = e
      at_itself (y ∷ ys) (suc k) d x h e = at_itself ys k d x (omega arith) e

  pub sorted_rises : (xs : List K) → IsSorted R xs → Once xs → Rises R xs
  sorted_rises xs h once = far_rises xs (sorted_far (λ x y. is_lt (R x y)) (ranks_by o.total (λ (x : K). x)) xs h) once

  -- how long a list in order is
  length_put : (ys : List K) (x : K) → (Has ys x → ⊥) → length (put R ys x) ≡ suc (length ys)
  length_put [] x n = refl
  length_put (y ∷ ys) x n =
      elim (R x y) as (λ r. R x y ≡ r → length (match_ordering r (x ∷ y ∷ ys) (y ∷ ys) (y ∷ put R ys x)) ≡ suc (suc (length ys))) [
        | Less ↦ λ _. refl
        | Equal ↦ λ e. absurd (n (inl (sym (o.exact x y e))))
        | Greater ↦ λ _. ap suc (length_put ys x (λ m. n (inr m)))
      ] refl

  length_fold : (ys xs : List K) → Once xs → ((z : K) → Has xs z → Has ys z → ⊥) → length (fold (put R) ys xs) ≡ length ys + length xs
  length_fold ys [] once apart = omega arith
  length_fold ys (x ∷ xs) once apart =
      let more = length_put ys x (apart x (inl refl)) in
      let all = length_fold (put R ys x) xs once.1 (λ z m k. elim (put_has R ys x z k) as (λ _. ⊥) [
        | inl e ↦ once.0 (subst (λ (y : K). Has xs y) (sym e) m)
        | inr l ↦ apart z (inr m) l
      ]) in
      omega (arith, more, all)

  pub length_ordered : (xs : List K) → Once xs → length (ordered R xs) ≡ length xs
  length_ordered xs once = let all = length_fold [] xs once (λ z m k. k) in omega (arith, all)

module _ (key : ℕ → ℕ) where
  -- by the keys, and of two equal ones by the ids
  abbrev pub by : ℕ → ℕ → Ordering
  by a b = ordering_then (nat_cmp (key a) (key b)) (nat_cmp a b)

  pub by_order : IsExactOrder by
  by_order = record {
    total = then_total (on_total key nat_cmp_total) nat_cmp_total;
    exact = λ a b h. ap (λ (p : ℕ × ℕ). p.1) (exact_pairs nat_cmp nat_cmp exact_unsigned exact_unsigned (key a, a) (key b, b) h);
  }

  -- all ids below n, by their keys
  abbrev pub ids_by : ℕ → List ℕ
  ids_by n = ordered by (range_with_len 0 n)

  pub length_ids : (n : ℕ) → length (ids_by n) ≡ n
  length_ids n = length_ordered by by_order (range_with_len 0 n) (range_once 0 n) ∙ length-range_with_len 0 n

  pub ids_below : (n z : ℕ) → Has (ids_by n) z → z < n
  ids_below n z h =
      elim (fold_has by [] (range_with_len 0 n) z h) as (λ _. z < n) [
        | inl k ↦ absurd k
        | inr m ↦ let within = range_has 0 n z m in omega (arith, within.1)
      ]

  pub below_ids : (n z : ℕ) → z < n → Has (ids_by n) z
  below_ids n z h = has_fold_new by by_order.exact [] (range_with_len 0 n) z (has_range 0 n z (omega arith) (omega arith))

  pub ids_once : (n : ℕ) → Once (ids_by n)
  ids_once n = rising_once by by_order (ids_by n) (Rises-fold_put by by_order [] (range_with_len 0 n) tt)

  -- an id with its key
  abbrev pub keyed : ℕ → ℕ × ℕ
  keyed id = (key id, id)

  abbrev pub pair_cmp : ℕ × ℕ → ℕ × ℕ → Ordering
  pair_cmp a b = ordering_then (nat_cmp a.0 b.0) (nat_cmp a.1 b.1)

  ids_keyed : (xs : List ℕ) → map (λ (p : ℕ × ℕ). p.1) (map keyed xs) ≡ xs
  ids_keyed [] = refl
  ids_keyed (x ∷ xs) = ap (λ (ys : List ℕ). x ∷ ys) (ids_keyed xs)

  all_keyed : (xs : List ℕ) → All (λ (p : ℕ × ℕ). p ≡ keyed p.1) (map keyed xs)
  all_keyed xs = All-map (λ (p : ℕ × ℕ). p ≡ keyed p.1) keyed xs (λ k d h. refl)

  keyed_again : (ps : List (ℕ × ℕ)) → All (λ (p : ℕ × ℕ). p ≡ keyed p.1) ps → map keyed (map (λ (p : ℕ × ℕ). p.1) ps) ≡ ps
  keyed_again [] h = refl
  keyed_again (p ∷ ps) h =
      let first : keyed p.1 ≡ p = sym (All-head (λ (p : ℕ × ℕ). p ≡ keyed p.1) p ps h) in
      let rest = keyed_again ps (All-tail (λ (p : ℕ × ℕ). p ≡ keyed p.1) p ps h) in
      λ i. first i ∷ rest i

  sorted_ids : (xs : List ℕ) → IsSorted pair_cmp (map keyed xs) → IsSorted by xs
  sorted_ids xs h k d low within =
      let long : k + 1 < length (map keyed xs) = omega (arith, length-map xs keyed) in
      let later = get_or-map keyed xs (k + 1) d (keyed d) within in
      let earlier = get_or-map keyed xs k d (keyed d) (omega arith) in
      sym (λ i. is_lt (pair_cmp (later i) (earlier i))) ∙ h k (keyed d) low long

  -- what a sort of ids with their keys leaves
  pub sorted_keys : (n : ℕ) (ps qs : List (ℕ × ℕ)) → ps ≡ map keyed (range_with_len 0 n) → IsPermutation ps qs → IsSorted pair_cmp qs → map (λ (p : ℕ × ℕ). p.1) qs ≡ ids_by n
  sorted_keys n ps qs e moved sorted =
      let range = range_with_len 0 n in
      let ids = map (λ (p : ℕ × ℕ). p.1) qs in
      let moved' = subst (λ (l : List (ℕ × ℕ)). IsPermutation l qs) e moved in
      let again = keyed_again qs (All-permutation (λ (p : ℕ × ℕ). p ≡ keyed p.1) (map keyed range) qs moved' (all_keyed range)) in
      let permuted : IsPermutation range ids = subst (λ (l : List ℕ). IsPermutation l ids) (ids_keyed range) (IsPermutation-map (λ (p : ℕ × ℕ). p.1) (map keyed range) qs moved') in
      let once : Once ids = once_counted ids (λ z. let same = sum_by-IsPermutation (λ x. cond (x == z) 1 0) range ids permuted in let most = count_most z range (range_once 0 n) in omega (arith, same, most)) in
      let rises = sorted_rises by by_order ids (sorted_ids ids (subst (λ (l : List (ℕ × ℕ)). IsSorted pair_cmp l) (sym again) sorted)) once in
      sym (ordered_is by by_order range ids rises
      (λ z m. has_from_Contains ids z (Contains-permutation range ids z permuted (Contains-from_has range z m)))
      (λ z m. has_from_Contains range z (Contains-permutation ids range z (IsPermutation-sym range ids permuted) (Contains-from_has ids z m))))
