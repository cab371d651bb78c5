-- What is offered where only new ids are: the list is the same.
use Rattle.std.proofs.Common.{◌≡◌, ℕ, ◌<◌, List, [], ◌∷◌, ◌++◌, map, length, refl, sym, ap, ◌∙◌, subst, inl, inr, append_assoc}
use Rattle.std.specs.Prelude.{◌⊎◌}
use Rattle.std.specs.List.{flat_map, range_with_len}
use Rattle.ann_defs.specs.Graph.{row_in, AreGoodRows}
use Rattle.ann_defs.specs.Ordered.{Has}
use Rattle.ann_defs.proofs.Members.{has-append, append-has, has-flat, flat-has}
use Rattle.neighbour_lists.specs.Fresh.{parts, AreWithout, ArePast, offered}
use Rattle.neighbour_lists.specs.ListRound.{nearest_of, next_row}
use Rattle.neighbour_lists.specs.Reversed.{others_of, joined}
use Rattle.neighbour_lists.proofs.KeptRows.{kept_all, kept_or}
use Rattle.neighbour_lists.proofs.Joining.{met_next}
use Rattle.neighbour_lists.proofs.Neighbourhoods.{alike_both, nearest_of_alike}
use Rattle.neighbour_lists.proofs.Past.{drop_past, parts_joined, joined_inside}

-- two functions that are the same on the members of a list
flat_on : (f g : ℕ → List ℕ) (xs : List ℕ) → ((x : ℕ) → Has xs x → f x ≡ g x) → flat_map f xs ≡ flat_map g xs
flat_on f g [] same = refl
flat_on f g (x ∷ xs) same = let here = same x (inl refl) in let rest = flat_on f g xs (λ y h. same y (inr h)) in λ i. here i ++ rest i

-- one part of three is another
other_end : (row past xs ys : List ℕ) → ((w : ℕ) → Has xs w → Has past w ⊎ Has ys w) → (w : ℕ) → Has (row ++ (past ++ xs)) w → Has (row ++ (past ++ ys)) w
other_end row past xs ys to w h =
    append-has row (past ++ ys) w
    (elim (has-append row (past ++ xs) w h) as (λ _. Has row w ⊎ Has (past ++ ys) w) [
      | inl m ↦ inl m
      | inr m ↦ inr (append-has past ys w (elim (has-append past xs w m) as (λ _. Has past w ⊎ Has ys w) [ inl k ↦ inl k | inr k ↦ to w k ]))
    ])

module _ (points : List (List ℕ)) (list : ℕ) (rows others seen_rows seen_others fresh fresh_others stale stale_others : List (List ℕ))
    (good : AreGoodRows (length points) list rows)
    (reversed : others ≡ map (others_of points list rows) (range_with_len 0 (length points)))
    (new : AreWithout (length points) seen_rows seen_others rows others fresh fresh_others)
    (old : AreWithout (length points) fresh fresh_others rows others stale stale_others)
    (past : ArePast points list rows seen_rows seen_others) where
  abbrev all : ℕ → List ℕ
  all = parts rows others

  abbrev some : ℕ → List ℕ
  some = parts fresh fresh_others

  abbrev seen : ℕ → List ℕ
  seen = parts seen_rows seen_others

  abbrev rest : ℕ → List ℕ
  rest = parts stale stale_others

  all_inside : (u w : ℕ) → u < length points → Has (all u) w → w < length points
  all_inside u w lt h = joined_inside points list rows good u w lt (subst (λ (xs : List ℕ). Has xs w) (parts_joined points list rows others reversed u lt) h)

  some_all : (u w : ℕ) → u < length points → Has (some u) w → Has (all u) w
  some_all = kept_all (length points) rows others seen_rows seen_others fresh fresh_others new

  some_or : (u w : ℕ) → u < length points → Has (all u) w → Has (some u) w ⊎ Has (seen u) w
  some_or = kept_or (length points) rows others seen_rows seen_others fresh fresh_others new

  rest_all : (u w : ℕ) → u < length points → Has (rest u) w → Has (all u) w
  rest_all = kept_all (length points) rows others fresh fresh_others stale stale_others old

  rest_or : (u w : ℕ) → u < length points → Has (all u) w → Has (rest u) w ⊎ Has (some u) w
  rest_or = kept_or (length points) rows others fresh fresh_others stale stale_others old

  module _ (v : ℕ) (lt : v < length points) where
    abbrev row : List ℕ
    row = row_in rows v

    abbrev news : List ℕ
    news = flat_map some (rest v) ++ flat_map all (some v)

    abbrev olds : List ℕ
    olds = flat_map seen (seen v)

    news_all : (w : ℕ) → Has news w → Has olds w ⊎ Has (flat_map all (all v)) w
    news_all w h =
        elim (has-append (flat_map some (rest v)) (flat_map all (some v)) w h) as (λ _. Has olds w ⊎ Has (flat_map all (all v)) w) [
          | inl m ↦
              let from = has-flat some (rest v) w m in
              let near = rest_all v from.0 lt from.1 in
              inr (flat-has all (all v) from.0 w near (some_all from.0 w (all_inside v from.0 lt near) from.2))
          | inr m ↦ let from = has-flat all (some v) w m in inr (flat-has all (all v) from.0 w (some_all v from.0 lt from.1) from.2)
        ]

    all_news : (w : ℕ) → Has (flat_map all (all v)) w → Has olds w ⊎ Has news w
    all_news w h =
        let from = has-flat all (all v) w h in
        let u = from.0 in
        let whole : Has (some v) u → Has olds w ⊎ Has news w = λ m. inr (append-has (flat_map some (rest v)) (flat_map all (some v)) w (inr (flat-has all (some v) u w m from.2))) in
        elim (some_or v u lt from.1) as (λ _. Has olds w ⊎ Has news w) [
          | inl m ↦ whole m
          | inr m ↦ elim (rest_or v u lt from.1) as (λ _. Has olds w ⊎ Has news w) [
            | inl r ↦ elim (some_or u w (all_inside v u lt from.1) from.2) as (λ _. Has olds w ⊎ Has news w) [
              | inl k ↦ inr (append-has (flat_map some (rest v)) (flat_map all (some v)) w (inl (flat-has some (rest v) u w r k)))
              | inr k ↦ inl (flat-has seen (seen v) u w m k)
            ]
            | inr r ↦ whole r
          ]
        ]

    olds_past : (w : ℕ) → Has olds w → (ids : List ℕ) → nearest_of points list v (row ++ w ∷ ids) ≡ nearest_of points list v (row ++ ids)
    olds_past w h = let from = has-flat seen (seen v) w h in past v from.0 w lt from.1 from.2

    -- the list after the round, of what is offered
    pub offered_next : nearest_of points list v (offered rows others fresh fresh_others stale stale_others v) ≡ next_row points list rows v
    offered_next =
        let whole = flat_map all (all v) in
        let mine = parts_joined points list rows others reversed v lt in
        let tail : whole ≡ flat_map (joined points list rows) (joined points list rows v) =
        flat_on all (joined points list rows) (all v) (λ u h. parts_joined points list rows others reversed u (all_inside v u lt h))
        ∙ ap (flat_map (joined points list rows)) mine in
        ap (nearest_of points list v) (append_assoc row (flat_map some (rest v)) (flat_map all (some v)))
        ∙ sym (drop_past points list v row olds news olds_past)
        ∙ nearest_of_alike points list v (row ++ (olds ++ news)) (row ++ (olds ++ whole)) (alike_both (row ++ (olds ++ news)) (row ++ (olds ++ whole)) (other_end row olds news whole news_all) (other_end row olds whole news all_news))
        ∙ drop_past points list v row olds whole olds_past
        ∙ ap (λ (xs : List ℕ). nearest_of points list v (row ++ xs)) tail
        ∙ met_next points list rows v
