-- Neighbourhoods in which each id stands once.
use Rattle.std.proofs.Common.{◌≡◌, ℕ, ◌<◌, true, false, not, List, ◌++◌, length, refl, ap, inl, inr}
use Rattle.std.specs.Prelude.{◌⊎◌}
use Rattle.std.specs.List.{All, flat_map}
use Rattle.ann_defs.specs.Graph.{has, row_in, AreGoodRows}
use Rattle.ann_defs.specs.Ordered.{Has}
use Rattle.ann_defs.proofs.Members.{all_from_has, has-append, append-has, has-flat, flat-has, has-filter, filter_has, has_true}
use Rattle.ann_defs.proofs.Order.{All_has}
use Rattle.neighbour_lists.specs.ListRound.{nearest_of, reverse_of, around, reached, next_row}
use Rattle.neighbour_lists.specs.Reversed.{others_of, joined, met}
use Rattle.neighbour_lists.proofs.Neighbourhoods.{alike_both, nearest_of_alike}
use Rattle.neighbour_lists.proofs.Reversing.{reverse_inside}

module _ (points : List (List ℕ)) (list : ℕ) (rows : List (List ℕ)) where
  pub joined_around : (u w : ℕ) → Has (joined points list rows u) w → Has (around points list rows u) w
  joined_around u w h =
      append-has (row_in rows u) (reverse_of points list rows u) w
      (elim (has-append (row_in rows u) (others_of points list rows u) w h) as (λ _. Has (row_in rows u) w ⊎ Has (reverse_of points list rows u) w) [
        | inl m ↦ inl m
        | inr m ↦ inr (filter_has (λ x. not (has (row_in rows u) x)) (reverse_of points list rows u) w m).0
      ])

  around_joined : (u w : ℕ) → Has (around points list rows u) w → Has (joined points list rows u) w
  around_joined u w h =
      append-has (row_in rows u) (others_of points list rows u) w
      (elim (has-append (row_in rows u) (reverse_of points list rows u) w h) as (λ _. Has (row_in rows u) w ⊎ Has (others_of points list rows u) w) [
        | inl m ↦ inl m
        | inr m ↦ elim (has (row_in rows u) w) as (λ b. has (row_in rows u) w ≡ b → Has (row_in rows u) w ⊎ Has (others_of points list rows u) w) [
          | true ↦ λ e. inl (has_true (row_in rows u) w e)
          | false ↦ λ e. inr (has-filter (λ x. not (has (row_in rows u) x)) (reverse_of points list rows u) w (ap not e) m)
        ] refl
      ])

  -- what lists and two steps of one family reach, two steps of a wider one do
  wider : (f g : ℕ → List ℕ) → ((u w : ℕ) → Has (f u) w → Has (g u) w) → (v w : ℕ) → Has (row_in rows v ++ flat_map f (f v)) w → Has (row_in rows v ++ flat_map g (g v)) w
  wider f g into v w h =
      append-has (row_in rows v) (flat_map g (g v)) w
      (elim (has-append (row_in rows v) (flat_map f (f v)) w h) as (λ _. Has (row_in rows v) w ⊎ Has (flat_map g (g v)) w) [
        | inl m ↦ inl m
        | inr m ↦ let from = has-flat f (f v) w m in inr (flat-has g (g v) from.0 w (into v from.0 from.1) (into from.0 w from.2))
      ])

  -- the next list, of what is met
  pub met_next : (v : ℕ) → nearest_of points list v (met points list rows v) ≡ next_row points list rows v
  met_next v =
      nearest_of_alike points list v (met points list rows v) (reached points list rows v) (alike_both (met points list rows v) (reached points list rows v)
      (wider (joined points list rows) (around points list rows) joined_around v)
      (wider (around points list rows) (joined points list rows) around_joined v))

-- the others are points, and at most as many as a list may have
pub others_inside : (points : List (List ℕ)) (list : ℕ) (rows : List (List ℕ)) → AreGoodRows (length points) list rows → (u : ℕ) → All (λ w. w < length points) (others_of points list rows u)
others_inside points list rows good u =
    all_from_has (λ w. w < length points) (others_of points list rows u) (λ w h.
    All_has (λ x. x < length points) (reverse_of points list rows u) w (reverse_inside points list rows good u) (filter_has (λ x. not (has (row_in rows u) x)) (reverse_of points list rows u) w h).0)
