-- The order of insertion has each id below n once.
use Rattle.std.proofs.Common.{◌≡◌, ℕ, ◌<◌, ◌≤◌, true, false, not, List, length, get_or, refl, sym, ap, ◌∙◌, subst, inl, inr, arith}
use Rattle.std.specs.Prelude.{◌==◌, ◌⊎◌, nat_eq}
use Rattle.std.specs.List.{All, IsDistinct}
use Rattle.std.proofs.lemmas.Bool.{eqb-true, eq-eqb}
use Rattle.std.proofs.lemmas.List.Elements.{Contains-get_or}
use Rattle.std.proofs.lemmas.List.Filters.{length-filter_both}
use Rattle.std.proofs.lemmas.List.FromFn.{length-range_with_len}
use Rattle.std.proofs.lemmas.List.Sums.{length-filter}
use Rattle.ann_defs.specs.Graph.{without}
use Rattle.ann_defs.specs.Ordered.{Has}
use Rattle.ann_defs.specs.declared.kinds.OrderKind.{OrderKind}
use Rattle.ann_defs.specs.declared.kinds.OrderKind.TheVariants.{File, Seeded}
use Rattle.ann_defs.specs.declared.kinds.StartKind.{StartKind}
use Rattle.ann_defs.specs.declared.kinds.StartKind.TheVariants.{First, Medoid}
use Rattle.ann_defs.proofs.Order.{has_from_Contains}
use Rattle.ann_defs.proofs.Members.{Once, Once-filter, filter_has, has-filter, all_from_has, distinct_once}
use Rattle.seeded_order.specs.Medoid.{medoid_of, spread}
use Rattle.seeded_order.specs.Order.{base_order, file_order_of, insertion_order, seeded_order_of, to_front}
use Rattle.seeded_order.specs.Words.{word_of}
use Rattle.seeded_order.proofs.Counts.{count, count_once, range_has, has_range, range_once}
use Rattle.seeded_order.proofs.KeyedOrder.{ids_by, length_ids, ids_below, below_ids, ids_once}

-- each id below n, once
pub record AreIds (n : ℕ) (ids : List ℕ) : Type 0 where
  pub count : length ids ≡ n
  pub below : (z : ℕ) → Has ids z → z < n
  pub each : (z : ℕ) → z < n → Has ids z
  pub once : Once ids

keyed_ids : (key : ℕ → ℕ) (n : ℕ) → AreIds n (ids_by key n)
keyed_ids key n = record { count = length_ids key n; below = ids_below key n; each = below_ids key n; once = ids_once key n }

pub file_ids : (n : ℕ) → AreIds n (file_order_of n)
file_ids n = record {
  count = length-range_with_len 0 n;
  below = λ z h. let within = range_has 0 n z h in omega (arith, within.1);
  each = λ z h. has_range 0 n z (omega arith) (omega arith);
  once = range_once 0 n;
}

pub seeded_ids : (n seed : ℕ) → AreIds n (seeded_order_of n seed)
seeded_ids n seed = keyed_ids (word_of seed 1) n

pub base_ids : (kind : OrderKind) (n seed : ℕ) → AreIds n (base_order kind n seed)
base_ids File n seed = file_ids n
base_ids Seeded n seed = seeded_ids n seed

-- once each, an id of them is counted once
pub id_once : (n id : ℕ) (ids : List ℕ) → AreIds n ids → id < n → count id ids ≡ 1
id_once n id ids are h = count_once id ids are.once (are.each id h)

pub front_ids : (n id : ℕ) (ids : List ℕ) → AreIds n ids → id < n → AreIds n (to_front id ids)
front_ids n id ids are h = record {
  count = let one = id_once n id ids are h in
      let kept = length-filter_both (λ x. x == id) (λ x. not (x == id)) (λ _. refl) ids in
      let those = length-filter (λ x. x == id) ids in
      let all = are.count in
      omega (arith, one, kept, those, all);
  below = λ z m. elim m as (λ _. z < n) [
    | inl e ↦ subst (λ (y : ℕ). y < n) e h
    | inr k ↦ are.below z (filter_has (λ x. not (x == id)) ids z k).0
  ];
  each = λ z k. elim (z == id) as (λ b. z == id ≡ b → (id ≡ z) ⊎ Has (without id ids) z) [
    | true ↦ λ e. inl (sym (eqb-true z id e))
    | false ↦ λ e. inr (has-filter (λ x. not (x == id)) ids z (ap not e) (are.each z k))
  ] refl;
  once = (
    λ m. let other = (filter_has (λ x. not (x == id)) ids id m).1 in
        let itself : false ≡ true = sym (ap not (eq-eqb id id refl)) ∙ other in cc,
    Once-filter (λ x. not (x == id)) ids are.once,
  );
}

-- the least of ids by their keys
pub first_below : (key : ℕ → ℕ) (n : ℕ) → 1 ≤ n → get_or (ids_by key n) 0 0 < n
first_below key n some =
    let long = length_ids key n in
    ids_below key n (get_or (ids_by key n) 0 0) (has_from_Contains (ids_by key n) (get_or (ids_by key n) 0 0) (Contains-get_or (ids_by key n) 0 0 (omega (arith, long))))

pub medoid_below : (points : List (List ℕ)) → 1 ≤ length points → medoid_of points < length points
medoid_below points some = first_below (spread points) (length points) some

pub insertion_ids : (points : List (List ℕ)) (order : OrderKind) (start : StartKind) (seed : ℕ) → 1 ≤ length points → AreIds (length points) (insertion_order points order start seed)
insertion_ids points order First seed some = base_ids order (length points) seed
insertion_ids points order Medoid seed some = front_ids (length points) (medoid_of points) (base_order order (length points) seed) (base_ids order (length points) seed) (medoid_below points some)

pub ids_all : (n : ℕ) (ids : List ℕ) → AreIds n ids → All (λ u. u < n) ids
ids_all n ids are = all_from_has (λ u. u < n) ids are.below

pub ids_distinct : (n : ℕ) (ids : List ℕ) → AreIds n ids → IsDistinct nat_eq ids
ids_distinct n ids are = distinct_once ids are.once
