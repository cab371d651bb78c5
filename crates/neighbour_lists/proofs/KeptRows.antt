-- Rows of what a neighbourhood in two parts doesn't have, one for each point.
use Rattle.std.proofs.Common.{◌≡◌, ℕ, ◌<◌, true, false, not, List, ◌++◌, map, length, refl, sym, ap, ◌∙◌, subst, inl, inr}
use Rattle.std.specs.Prelude.{◌⊎◌}
use Rattle.std.specs.List.{All, range_with_len}
use Rattle.ann_defs.specs.Graph.{has, row_in}
use Rattle.ann_defs.specs.Ordered.{Has}
use Rattle.ann_defs.proofs.Members.{all_from_has, has-append, append-has, has-filter, filter_has, has_true}
use Rattle.ann_defs.proofs.Order.{All_has}
use Rattle.neighbour_lists.specs.Fresh.{parts, row_without, ArePoints, AreWithout, AreHoods}
use Rattle.neighbour_lists.proofs.AllRows.{mapped_count, mapped_row}

-- an id of a row is new, or it was in the neighbourhood
new_or_seen : (rows seen_rows seen_others : List (List ℕ)) (u w : ℕ) → Has (row_in rows u) w → Has (row_without seen_rows seen_others rows u) w ⊎ Has (parts seen_rows seen_others u) w
new_or_seen rows seen_rows seen_others u w h =
    let seen = parts seen_rows seen_others u in
    elim (has seen w) as (λ b. has seen w ≡ b → Has (row_without seen_rows seen_others rows u) w ⊎ Has seen w) [
      | true ↦ λ e. inr (has_true seen w e)
      | false ↦ λ e. inl (has-filter (λ x. not (has seen x)) (row_in rows u) w (ap not e) h)
    ] refl

-- a new id is one of the row
new_of : (rows seen_rows seen_others : List (List ℕ)) (u w : ℕ) → Has (row_without seen_rows seen_others rows u) w → Has (row_in rows u) w
new_of rows seen_rows seen_others u w h = (filter_has (λ x. not (has (parts seen_rows seen_others u) x)) (row_in rows u) w h).0

-- as many rows as there are points
kept_count : (n : ℕ) (seen_rows seen_others rows kept : List (List ℕ)) → kept ≡ map (row_without seen_rows seen_others rows) (range_with_len 0 n) → length kept ≡ n
kept_count n seen_rows seen_others rows kept is = ap (λ (rs : List (List ℕ)). length rs) is ∙ mapped_count (row_without seen_rows seen_others rows) n

-- what is kept of rows of points is rows of points
kept_inside : (n : ℕ) (rows seen_rows seen_others kept : List (List ℕ)) → ArePoints n rows → kept ≡ map (row_without seen_rows seen_others rows) (range_with_len 0 n) → ArePoints n kept
kept_inside n rows seen_rows seen_others kept h is = record {
  count = kept_count n seen_rows seen_others rows kept is;
  inside = λ u lt.
      subst (All (λ w. w < n)) (sym (ap (λ (rs : List (List ℕ)). row_in rs u) is ∙ mapped_row (row_without seen_rows seen_others rows) n u lt))
      (all_from_has (λ w. w < n) (row_without seen_rows seen_others rows u) (λ w m. All_has (λ x. x < n) (row_in rows u) w (h.inside u lt) (new_of rows seen_rows seen_others u w m)));
}

-- rows in two parts, and what is kept of both
module _ (n : ℕ) (rows others seen_rows seen_others kept kept_others : List (List ℕ))
    (are : AreWithout n seen_rows seen_others rows others kept kept_others) where
  pub rows_kept : length kept ≡ n
  rows_kept = kept_count n seen_rows seen_others rows kept are.rows

  pub others_kept : length kept_others ≡ n
  others_kept = kept_count n seen_rows seen_others others kept_others are.others

  pub hoods_kept : AreHoods n rows others → AreHoods n kept kept_others
  hoods_kept h = record {
    rows = kept_inside n rows seen_rows seen_others kept h.rows are.rows;
    others = kept_inside n others seen_rows seen_others kept_others h.others are.others;
  }

-- an id of a point, and what is kept of both parts
module _ (n : ℕ) (rows others seen_rows seen_others kept kept_others : List (List ℕ))
    (are : AreWithout n seen_rows seen_others rows others kept kept_others)
    (u w : ℕ) (lt : u < n) where
  abbrev first : List ℕ
  first = row_without seen_rows seen_others rows u

  abbrev second : List ℕ
  second = row_without seen_rows seen_others others u

  kept_are : parts kept kept_others u ≡ first ++ second
  kept_are = λ i.
      (ap (λ (rs : List (List ℕ)). row_in rs u) are.rows ∙ mapped_row (row_without seen_rows seen_others rows) n u lt) i
      ++ (ap (λ (rs : List (List ℕ)). row_in rs u) are.others ∙ mapped_row (row_without seen_rows seen_others others) n u lt) i

  -- what is kept stood there
  pub kept_all : Has (parts kept kept_others u) w → Has (parts rows others u) w
  kept_all h =
      append-has (row_in rows u) (row_in others u) w
      (elim (has-append first second w (subst (λ (xs : List ℕ). Has xs w) kept_are h)) as (λ _. Has (row_in rows u) w ⊎ Has (row_in others u) w) [
        | inl m ↦ inl (new_of rows seen_rows seen_others u w m)
        | inr m ↦ inr (new_of others seen_rows seen_others u w m)
      ])

  kept_first : Has first w ⊎ Has (parts seen_rows seen_others u) w → Has (parts kept kept_others u) w ⊎ Has (parts seen_rows seen_others u) w
  kept_first h =
      elim h as (λ _. Has (parts kept kept_others u) w ⊎ Has (parts seen_rows seen_others u) w) [
        | inl m ↦ inl (subst (λ (xs : List ℕ). Has xs w) (sym kept_are) (append-has first second w (inl m)))
        | inr m ↦ inr m
      ]

  kept_second : Has second w ⊎ Has (parts seen_rows seen_others u) w → Has (parts kept kept_others u) w ⊎ Has (parts seen_rows seen_others u) w
  kept_second h =
      elim h as (λ _. Has (parts kept kept_others u) w ⊎ Has (parts seen_rows seen_others u) w) [
        | inl m ↦ inl (subst (λ (xs : List ℕ). Has xs w) (sym kept_are) (append-has first second w (inr m)))
        | inr m ↦ inr m
      ]

  -- what stood there is kept, or it was in the neighbourhood
  pub kept_or : Has (parts rows others u) w → Has (parts kept kept_others u) w ⊎ Has (parts seen_rows seen_others u) w
  kept_or h =
      elim (has-append (row_in rows u) (row_in others u) w h) as (λ _. Has (parts kept kept_others u) w ⊎ Has (parts seen_rows seen_others u) w) [
        | inl m ↦ kept_first (new_or_seen rows seen_rows seen_others u w m)
        | inr m ↦ kept_second (new_or_seen others seen_rows seen_others u w m)
      ]
