-- Neighbourhoods.
use Rattle.std.proofs.Common.{◌≡◌, ℕ, ◌<◌, List, [], length, sym, ◌∙◌, subst, inl, inr, arith}
use Rattle.std.specs.Prelude.{◌⊎◌, ◌==◌, not}
use Rattle.std.specs.List.{flat_map, range_with_len}
use Rattle.std.proofs.lemmas.List.FromFn.{get_or-map-range_with_len}
use Rattle.ann_defs.specs.Graph.{has, without, row_in, AreGoodRows}
use Rattle.ann_defs.specs.Laws.{AreAlike}
use Rattle.ann_defs.specs.Ordered.{Has}
use Rattle.ann_defs.proofs.Alike.{alike_has, alike_back}
use Rattle.ann_defs.proofs.Members.{has-append, append-has, has-flat, flat-has, has-filter, filter_has, has_true, true_has, range_has, same_bool}
use Rattle.ann_defs.proofs.Order.{All_has}
use Rattle.robust_prune.specs.Nearest.{nearest_alike}
use Rattle.neighbour_lists.specs.ListRound.{nearest_of, sources_of, reverse_of, around, reached, next_row, next_rows}
use Rattle.neighbour_lists.specs.Settled.{IsSettled}
use Rattle.neighbour_lists.proofs.NearestLists.{nearest_is_good}

-- one list has each member of another
pub alike_both : (xs ys : List ℕ) → ((u : ℕ) → Has xs u → Has ys u) → ((u : ℕ) → Has ys u → Has xs u) → AreAlike xs ys
alike_both xs ys p q u = same_bool (has xs u) (has ys u) (λ h. true_has ys u (p u (has_true xs u h))) (λ h. true_has xs u (q u (has_true ys u h)))

without_alike : (v : ℕ) (xs ys : List ℕ) → AreAlike xs ys → AreAlike (without v xs) (without v ys)
without_alike v xs ys same = alike_both (without v xs) (without v ys) (either xs ys same) (either ys xs (alike_back xs ys same))
  where
    either : (xs ys : List ℕ) → AreAlike xs ys → (u : ℕ) → Has (without v xs) u → Has (without v ys) u
    either xs ys same u h = let from = filter_has (λ x. not (x == v)) xs u h in has-filter (λ x. not (x == v)) ys u from.1 (alike_has xs ys same u from.0)

-- the nearest of two lists with the same members
pub nearest_of_alike : (points : List (List ℕ)) (list v : ℕ) (xs ys : List ℕ) → AreAlike xs ys → nearest_of points list v xs ≡ nearest_of points list v ys
nearest_of_alike points list v xs ys same = nearest_alike points v list (without v xs) (without v ys) (without_alike v xs ys same)

module _ (points : List (List ℕ)) (list : ℕ) (old new : List (List ℕ)) (v : ℕ) (still : IsSettled points list old new v) where
  back : (u : ℕ) → Has (reached points list new v) u → Has (reached points list old v) u
  back u h =
      append-has (row_in old v) (flat_map (around points list old) (around points list old v)) u
      (elim (has-append (row_in new v) (flat_map (around points list new) (around points list new v)) u h) as (λ _. Has (row_in old v) u ⊎ Has (flat_map (around points list old) (around points list old v)) u) [
        | inl m ↦ inl (subst (λ (xs : List ℕ). Has xs u) still.row m)
        | inr m ↦
            let from = has-flat (around points list new) (around points list new v) u m in
            let w = from.0 in
            let seen : Has (around points list old v) w = alike_has (around points list new v) (around points list old v) still.around_it w from.1 in
            inr (flat-has (around points list old) (around points list old v) w u seen
            (alike_has (around points list new w) (around points list old w) (still.around_them w (true_has (around points list old v) w seen)) u from.2))
      ])

  forth : (u : ℕ) → Has (reached points list old v) u → Has (reached points list new v) u
  forth u h =
      append-has (row_in new v) (flat_map (around points list new) (around points list new v)) u
      (elim (has-append (row_in old v) (flat_map (around points list old) (around points list old v)) u h) as (λ _. Has (row_in new v) u ⊎ Has (flat_map (around points list new) (around points list new v)) u) [
        | inl m ↦ inl (subst (λ (xs : List ℕ). Has xs u) (sym still.row) m)
        | inr m ↦
            let from = has-flat (around points list old) (around points list old v) u m in
            let w = from.0 in
            let seen : Has (around points list new v) w = alike_has (around points list old v) (around points list new v) (alike_back (around points list new v) (around points list old v) still.around_it) w from.1 in
            inr (flat-has (around points list new) (around points list new v) w u seen
            (alike_has (around points list old w) (around points list new w) (alike_back (around points list new w) (around points list old w) (still.around_them w (true_has (around points list old v) w from.1))) u from.2))
      ])

  pub settled_next : next_row points list new v ≡ next_row points list old v
  settled_next = nearest_of_alike points list v (reached points list new v) (reached points list old v) (alike_both (reached points list new v) (reached points list old v) back forth)

pub row_of_next : (points : List (List ℕ)) (list : ℕ) (rows : List (List ℕ)) (v : ℕ) → v < length points → row_in (next_rows points list rows) v ≡ next_row points list rows v
row_of_next points list rows v below = get_or-map-range_with_len (next_row points list rows) 0 (length points) v v [] below (omega arith)

-- a settled point keeps its list
pub settled_stays : (points : List (List ℕ)) (list : ℕ) (rows : List (List ℕ)) (v : ℕ) → v < length points → IsSettled points list rows (next_rows points list rows) v → next_row points list (next_rows points list rows) v ≡ row_in (next_rows points list rows) v
settled_stays points list rows v below still = settled_next points list rows (next_rows points list rows) v still ∙ sym (row_of_next points list rows v below)

-- what a point reaches are points
module _ (points : List (List ℕ)) (list : ℕ) (rows : List (List ℕ)) (good : AreGoodRows (length points) list rows) where
  row_inside : (v u : ℕ) → v < length points → Has (row_in rows v) u → u < length points
  row_inside v u below h = All_has (λ w. w < length points) (row_in rows v) u (good.good v below).inside h

  source_inside : (v u : ℕ) → Has (sources_of rows v) u → u < length points
  source_inside v u h =
      let from = filter_has (λ u. has (row_in rows u) v) (range_with_len 0 (length rows)) u h in
      let below = (range_has 0 (length rows) u from.0).1 in
      omega (arith, below, good.count)

  pub around_inside : (v u : ℕ) → v < length points → Has (around points list rows v) u → u < length points
  around_inside v u below h =
      elim (has-append (row_in rows v) (reverse_of points list rows v) u h) as (λ _. u < length points) [
        | inl m ↦ row_inside v u below m
        | inr m ↦ All_has (λ w. w < length points) (reverse_of points list rows v) u (nearest_is_good points list v (sources_of rows v) (source_inside v)).inside m
      ]

  pub reached_inside : (v u : ℕ) → v < length points → Has (reached points list rows v) u → u < length points
  reached_inside v u below h =
      elim (has-append (row_in rows v) (flat_map (around points list rows) (around points list rows v)) u h) as (λ _. u < length points) [
        | inl m ↦ row_inside v u below m
        | inr m ↦
            let from = has-flat (around points list rows) (around points list rows v) u m in
            around_inside from.0 u (around_inside v from.0 below from.1) from.2
      ]
