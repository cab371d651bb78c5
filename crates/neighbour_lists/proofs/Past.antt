-- What was offered once changes nothing when it is offered again.
use Rattle.std.proofs.Common.{◌≡◌, ◌≢◌, ℕ, ◌<◌, true, not, List, [], ◌∷◌, ◌++◌, map, take, replicate, length, refl, sym, ap, ◌∙◌, subst, inl, inr, append_assoc}
use Rattle.std.specs.Prelude.{◌==◌}
use Rattle.std.specs.List.{fold, flat_map, range_with_len}
use Rattle.std.proofs.lemmas.Bool.{ne_eqb}
use Rattle.std.proofs.lemmas.List.{map-append, get_or-replicate}
use Rattle.std.proofs.lemmas.List.Elements.{All-weaker, filter-append}
use Rattle.std.proofs.lemmas.List.Sums.{fold-append}
use Rattle.ann_defs.specs.declared.near.Near.{Near}
use Rattle.ann_defs.specs.Distance.{point}
use Rattle.ann_defs.specs.Graph.{without, row_in, AreGoodRows}
use Rattle.ann_defs.specs.Laws.{AreAlike}
use Rattle.ann_defs.specs.Nearness.{near_cmp, near_of, all_near, ids_of, least}
use Rattle.ann_defs.specs.Ordered.{Has, Rises, put, ordered}
use Rattle.ann_defs.proofs.GoodRows.{listed_right}
use Rattle.ann_defs.proofs.Members.{has-append, append-has, flat-has}
use Rattle.ann_defs.proofs.NearOrder.{near_order}
use Rattle.ann_defs.proofs.Order.{All_has, Rises-fold_put, Rises-take, ordered_rising, has-take, take-fold_put}
use Rattle.batch_insert.proofs.Grouping.{filter_each}
use Rattle.neighbour_lists.specs.Fresh.{parts, IsPast, ArePast}
use Rattle.neighbour_lists.specs.ListRound.{nearest_of, around, reached, next_rows}
use Rattle.neighbour_lists.specs.Reversed.{others_of, joined}
use Rattle.neighbour_lists.proofs.AllRows.{mapped_row}
use Rattle.neighbour_lists.proofs.Joining.{joined_around, others_inside}
use Rattle.neighbour_lists.proofs.NearestLists.{near_ids, nearest_is_good}
use Rattle.neighbour_lists.proofs.Neighbourhoods.{alike_both, nearest_of_alike, reached_inside, row_of_next}

-- the nearest of some ids, and more ids: as the nearest of all of them
pub nearest_on : (points : List (List ℕ)) (list v : ℕ) (ids more : List ℕ) → ((u : ℕ) → Has ids u → u < length points) → nearest_of points list v (nearest_of points list v ids ++ more) ≡ nearest_of points list v (ids ++ more)
nearest_on points list v ids more inside =
    let q = point points v in
    let other = λ (x : ℕ). not (x == v) in
    let mine = all_near points q (without v ids) in
    let rest = all_near points q (without v more) in
    let all = ordered near_cmp mine in
    let kept = take list all in
    let row = nearest_of points list v ids in
    let others : without v row ≡ row = filter_each other row (All-weaker (λ u. u ≢ v) (λ x. not (x == v) ≡ true) (λ x h. ap not (ne_eqb x v h)) row (nearest_is_good points list v ids inside).others) in
    let same : all_near points q row ≡ kept = near_ids points q kept (λ z h. listed_right points v (without v ids) 1 1 list z (has-take list all z h)) in
    let up : Rises near_cmp kept = Rises-take near_cmp list all (Rises-fold_put near_cmp near_order [] mine tt) in
    let left : all_near points q (without v (row ++ more)) ≡ kept ++ rest =
    ap (all_near points q) (filter-append other row more)
    ∙ map-append (near_of points q) (without v row) (without v more)
    ∙ ap (λ (zs : List Near). zs ++ rest) (ap (all_near points q) others ∙ same) in
    let right : all_near points q (without v (ids ++ more)) ≡ mine ++ rest =
    ap (all_near points q) (filter-append other ids more) ∙ map-append (near_of points q) (without v ids) (without v more) in
    ap (λ (zs : List Near). ids_of (least zs list)) left
    ∙ ap (λ (zs : List Near). ids_of (take list zs)) (fold-append (put near_cmp) [] kept rest ∙ ap (λ (zs : List Near). fold (put near_cmp) zs rest) (ordered_rising near_cmp near_order kept up))
    ∙ ap (λ (zs : List Near). ids_of zs) (take-fold_put near_cmp list all rest)
    ∙ ap (λ (zs : List Near). ids_of (take list zs)) (sym (fold-append (put near_cmp) [] mine rest))
    ∙ ap (λ (zs : List Near). ids_of (least zs list)) (sym right)

-- past ids may be left out
pub drop_past : (points : List (List ℕ)) (list v : ℕ) (row zs ids : List ℕ) → ((w : ℕ) → Has zs w → IsPast points list v row w) → nearest_of points list v (row ++ (zs ++ ids)) ≡ nearest_of points list v (row ++ ids)
drop_past points list v row [] ids past = refl
drop_past points list v row (z ∷ zs) ids past = past z (inl refl) (zs ++ ids) ∙ drop_past points list v row zs ids (λ w h. past w (inr h))

-- an id that stands in a list already
twice : (xs ids : List ℕ) (w : ℕ) → Has xs w → AreAlike (xs ++ w ∷ ids) (xs ++ ids)
twice xs ids w there =
    alike_both (xs ++ w ∷ ids) (xs ++ ids)
    (λ u h. elim (has-append xs (w ∷ ids) u h) as (λ _. Has (xs ++ ids) u) [
      | inl m ↦ append-has xs ids u (inl m)
      | inr m ↦ elim m as (λ _. Has (xs ++ ids) u) [
        | inl e ↦ append-has xs ids u (inl (subst (Has xs) e there))
        | inr k ↦ append-has xs ids u (inr k)
      ]
    ])
    (λ u h. elim (has-append xs ids u h) as (λ _. Has (xs ++ w ∷ ids) u) [
      | inl m ↦ append-has xs (w ∷ ids) u (inl m)
      | inr m ↦ append-has xs (w ∷ ids) u (inr (inr m))
    ])

-- an id that comes earlier or later
moved : (row leaf ids : List ℕ) (w : ℕ) → AreAlike ((row ++ leaf) ++ w ∷ ids) (row ++ w ∷ (leaf ++ ids))
moved row leaf ids w =
    alike_both ((row ++ leaf) ++ w ∷ ids) (row ++ w ∷ (leaf ++ ids))
    (λ u h. elim (has-append (row ++ leaf) (w ∷ ids) u h) as (λ _. Has (row ++ w ∷ (leaf ++ ids)) u) [
      | inl m ↦ elim (has-append row leaf u m) as (λ _. Has (row ++ w ∷ (leaf ++ ids)) u) [
        | inl k ↦ append-has row (w ∷ (leaf ++ ids)) u (inl k)
        | inr k ↦ append-has row (w ∷ (leaf ++ ids)) u (inr (inr (append-has leaf ids u (inl k))))
      ]
      | inr m ↦ elim m as (λ _. Has (row ++ w ∷ (leaf ++ ids)) u) [
        | inl e ↦ append-has row (w ∷ (leaf ++ ids)) u (inr (inl e))
        | inr k ↦ append-has row (w ∷ (leaf ++ ids)) u (inr (inr (append-has leaf ids u (inr k))))
      ]
    ])
    (λ u h. elim (has-append row (w ∷ (leaf ++ ids)) u h) as (λ _. Has ((row ++ leaf) ++ w ∷ ids) u) [
      | inl m ↦ append-has (row ++ leaf) (w ∷ ids) u (inl (append-has row leaf u (inl m)))
      | inr m ↦ elim m as (λ _. Has ((row ++ leaf) ++ w ∷ ids) u) [
        | inl e ↦ append-has (row ++ leaf) (w ∷ ids) u (inr (inl e))
        | inr k ↦ elim (has-append leaf ids u k) as (λ _. Has ((row ++ leaf) ++ w ∷ ids) u) [
          | inl j ↦ append-has (row ++ leaf) (w ∷ ids) u (inl (append-has row leaf u (inr j)))
          | inr j ↦ append-has (row ++ leaf) (w ∷ ids) u (inr (inr j))
        ]
      ]
    ])

-- what a list was made of is past
pub made_past : (points : List (List ℕ)) (list v : ℕ) (row from : List ℕ) (w : ℕ) → row ≡ nearest_of points list v from → ((u : ℕ) → Has from u → u < length points) → Has from w → IsPast points list v row w
made_past points list v row from w is inside there ids =
    ap (λ (xs : List ℕ). nearest_of points list v (xs ++ w ∷ ids)) is
    ∙ nearest_on points list v from (w ∷ ids) inside
    ∙ nearest_of_alike points list v (from ++ w ∷ ids) (from ++ ids) (twice from ids w there)
    ∙ sym (nearest_on points list v from ids inside)
    ∙ ap (λ (xs : List ℕ). nearest_of points list v (xs ++ ids)) (sym is)

-- what is past stays so while more is offered
pub still_past : (points : List (List ℕ)) (list v : ℕ) (row leaf new : List ℕ) (w : ℕ) → new ≡ nearest_of points list v (row ++ leaf) → ((u : ℕ) → Has (row ++ leaf) u → u < length points) → IsPast points list v row w → IsPast points list v new w
still_past points list v row leaf new w is inside past ids =
    ap (λ (xs : List ℕ). nearest_of points list v (xs ++ w ∷ ids)) is
    ∙ nearest_on points list v (row ++ leaf) (w ∷ ids) inside
    ∙ nearest_of_alike points list v ((row ++ leaf) ++ w ∷ ids) (row ++ w ∷ (leaf ++ ids)) (moved row leaf ids w)
    ∙ past (leaf ++ ids)
    ∙ ap (nearest_of points list v) (sym (append_assoc row leaf ids))
    ∙ sym (nearest_on points list v (row ++ leaf) ids inside)
    ∙ ap (λ (xs : List ℕ). nearest_of points list v (xs ++ ids)) (sym is)

-- neighbourhoods as rows
pub parts_joined : (points : List (List ℕ)) (list : ℕ) (rows others : List (List ℕ)) → others ≡ map (others_of points list rows) (range_with_len 0 (length points)) → (u : ℕ) → u < length points → parts rows others u ≡ joined points list rows u
parts_joined points list rows others is u lt = ap (λ (xs : List ℕ). row_in rows u ++ xs) (ap (λ (rs : List (List ℕ)). row_in rs u) is ∙ mapped_row (others_of points list rows) (length points) u lt)

pub joined_inside : (points : List (List ℕ)) (list : ℕ) (rows : List (List ℕ)) → AreGoodRows (length points) list rows → (u w : ℕ) → u < length points → Has (joined points list rows u) w → w < length points
joined_inside points list rows good u w lt h =
    elim (has-append (row_in rows u) (others_of points list rows u) w h) as (λ _. w < length points) [
      | inl m ↦ All_has (λ x. x < length points) (row_in rows u) w (good.good u lt).inside m
      | inr m ↦ All_has (λ x. x < length points) (others_of points list rows u) w (others_inside points list rows good u) m
    ]

-- a round meets the neighbourhoods that it is made from
pub round_past : (points : List (List ℕ)) (list : ℕ) (rows others : List (List ℕ)) → AreGoodRows (length points) list rows → others ≡ map (others_of points list rows) (range_with_len 0 (length points)) → ArePast points list (next_rows points list rows) rows others
round_past points list rows others good is v u w lt h k =
    let near : Has (joined points list rows v) u = subst (λ (xs : List ℕ). Has xs u) (parts_joined points list rows others is v lt) h in
    let below = joined_inside points list rows good v u lt near in
    let next : Has (joined points list rows u) w = subst (λ (xs : List ℕ). Has xs w) (parts_joined points list rows others is u below) k in
    let met : Has (reached points list rows v) w =
    append-has (row_in rows v) (flat_map (around points list rows) (around points list rows v)) w
    (inr (flat-has (around points list rows) (around points list rows v) u w (joined_around points list rows v u near) (joined_around points list rows u w next))) in
    made_past points list v (row_in (next_rows points list rows) v) (reached points list rows v) w (row_of_next points list rows v lt) (λ x m. reached_inside points list rows good v x lt m) met

-- before the first round nothing was met
pub none_past : (points : List (List ℕ)) (list : ℕ) (rows seen_rows seen_others : List (List ℕ)) → seen_rows ≡ replicate (length points) [] → seen_others ≡ replicate (length points) [] → ArePast points list rows seen_rows seen_others
none_past points list rows seen_rows seen_others is others v u w lt h k =
    let none : (rs : List (List ℕ)) → rs ≡ replicate (length points) [] → row_in rs v ≡ [] = λ rs e. ap (λ (xs : List (List ℕ)). row_in xs v) e ∙ get_or-replicate (length points) v [] [] lt in
    absurd (subst (λ (xs : List ℕ). Has xs u) (λ i. none seen_rows is i ++ none seen_others others i) h)
