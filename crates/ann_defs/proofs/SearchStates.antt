-- What holds in each state of a search.
use Rattle.std.proofs.Common.{◌≡◌, ℕ, zero, suc, ◌+◌, ◌-◌, ◌<◌, ◌≤◌, Bool, true, not, Some, None, List, [], ◌∷◌, ◌++◌, take, set, length, refl, sym, ap, ◌∙◌, subst, inl, inr, arith}
use Rattle.std.specs.Prelude.{◌⊎◌, ◌||◌, nat_eq}
use Rattle.std.specs.List.{fold, All, IsDistinct, list_any}
use Rattle.std.specs.Option.{option_map_or}
use Rattle.std.proofs.lemmas.Grind.{fold-append}
use Rattle.std.proofs.lemmas.Bool.{eqb-true, not-true, or_cases}
use Rattle.std.proofs.lemmas.Cmp.{nat_eq_equiv}
use Rattle.std.proofs.lemmas.List.{map_push, length_push, length-map, take_more_set}
use Rattle.std.proofs.lemmas.Map.Keys.{IsDistinct-push}
use Rattle.std.proofs.lemmas.Map.Steps.{length-le_from_distinct_below}
use Rattle.ann_defs.specs.declared.near.Near.{Near}
use Rattle.ann_defs.specs.Ordered.{put, ordered}
use Rattle.ann_defs.specs.Nearness.{near_cmp, near_of, all_near, ids_of, least}
use Rattle.ann_defs.specs.Graph.{IsGraph}
use Rattle.ann_defs.specs.GreedySearch.{Walk, walk_in, is_in, next_of, visit, walk, start_of}
use Rattle.ann_defs.specs.Ordered.{Has, Rises}
use Rattle.ann_defs.proofs.Order.{Rises-take, Rises-fold_put, fold_has, has-take, has-map, has-push, has_found, All_has, ordered_rising}
use Rattle.ann_defs.proofs.NearOrder.{near_order}

has_any : (xs : List ℕ) (q : ℕ) → list_any (nat_eq q) xs ≡ true → Has xs q
has_any [] q h = cc
has_any (x ∷ xs) q h = elim (or_cases (nat_eq q x) (list_any (nat_eq q) xs) h) as (λ _. (x ≡ q) ⊎ Has xs q) [ inl e ↦ inl (sym (eqb-true q x e)) | inr m ↦ inr (has_any xs q m) ]

-- whether an id is among those, by the ids alone
is_in-ids : (nears : List Near) (x : Near) → list_any (nat_eq x.id) (ids_of nears) ≡ is_in nears x
is_in-ids [] x = refl
is_in-ids (y ∷ nears) x = ap (λ b. nat_eq x.id y.id || b) (is_in-ids nears x)

none_distinct : IsDistinct nat_eq []
unfolding IsDistinct
none_distinct = tt

module _ (points : List (List ℕ)) (row : ℕ → List ℕ) (query : List ℕ) (beam : ℕ) where
  -- the nearest of a list in order and others
  pub least_onto : (found more : List Near) → Rises near_cmp found → least (found ++ more) beam ≡ take beam (fold (put near_cmp) found more)
  least_onto found more h =
      ap (take beam) (fold-append (put near_cmp) [] found more ∙ ap (λ ys. fold (put near_cmp) ys more) (ordered_rising near_cmp near_order found h))

  pub walk_visit : (k : ℕ) (w : Walk) (p : Near) → next_of w ≡ Some p → walk points row query beam (suc k) w ≡ walk points row query beam k (visit points row query beam w p)
  walk_visit k w p e = ap (λ o. option_map_or (λ p. walk points row query beam k (visit points row query beam w p)) o w) e

  pub walk_done : (k : ℕ) (w : Walk) → next_of w ≡ None → walk points row query beam k w ≡ w
  walk_done zero w e = refl
  walk_done (suc k) w e = ap (λ o. option_map_or (λ p. walk points row query beam k (visit points row query beam w p)) o w) e

  -- one visit, as the slices show it
  pub visited_more : (found : List Near) (len : ℕ) (visited : List Near) (count : ℕ) (found' : List Near) (len' : ℕ) (p : Near) → Rises near_cmp (take len found) → count < length visited → take len' found' ≡ take beam (fold (put near_cmp) (take len found) (all_near points query (row p.id))) → walk_in found' len' (set visited count p) (count + 1) ≡ visit points row query beam (walk_in found len visited count) p
  visited_more found len visited count found' len' p up fits e =
      let nearest : take len' found' ≡ least (take len found ++ all_near points query (row p.id)) beam = e ∙ sym (least_onto (take len found) (all_near points query (row p.id)) up) in
      let order : take (count + 1) (set visited count p) ≡ take count visited ++ p ∷ [] = take_more_set visited count p fits in
      λ i. record { found = nearest i; visited = order i }

  module _ (held : ℕ → Bool) where
    -- a held id with its right distance
    abbrev pub IsRight : Near → Type 0
    IsRight z = (held z.id ≡ true) × (z ≡ near_of points query z.id)

    pub record IsSound (w : Walk) : Type 0 where
      pub rises : Rises near_cmp w.found
      pub found_right : (z : Near) → Has w.found z → IsRight z
      pub visited_right : (z : Near) → Has w.visited z → IsRight z
      pub distinct : IsDistinct nat_eq (ids_of w.visited)

    -- what is next is held
    pub next_held : (w : Walk) (p : Near) → IsSound w → next_of w ≡ Some p → held p.id ≡ true
    next_held w p s e = (s.found_right p (has_found (λ x. not (is_in w.visited x)) w.found p e).0).0

    all_near_held : (ids : List ℕ) → All (λ u. held u ≡ true) ids → (z : Near) → Has (all_near points query ids) z → IsRight z
    all_near_held ids all z h =
        let from = has-map (near_of points query) ids z h in
        subst (λ (y : Near). IsRight y) from.2 (All_has (λ u. held u ≡ true) ids from.0 all from.1, refl)

    least_held : (set : List Near) → ((z : Near) → Has set z → IsRight z) → (z : Near) → Has (least set beam) z → IsRight z
    least_held set all z h =
        elim (fold_has near_cmp [] set z (has-take beam (ordered near_cmp set) z h)) as (λ _. IsRight z) [ inl m ↦ absurd m | inr m ↦ all z m ]

    append_held : (xs ys : List Near) → ((z : Near) → Has xs z → IsRight z) → ((z : Near) → Has ys z → IsRight z) → (z : Near) → Has (xs ++ ys) z → IsRight z
    append_held [] ys p q z h = q z h
    append_held (x ∷ xs) ys p q z h = elim h as (λ _. IsRight z) [ inl e ↦ p z (inl e) | inr m ↦ append_held xs ys (λ y k. p y (inr k)) q z m ]

    pub sound_start : (starts : List ℕ) → All (λ u. held u ≡ true) starts → IsSound (start_of points row query beam starts)
    sound_start starts all = record {
      rises = Rises-take near_cmp beam _ (Rises-fold_put near_cmp near_order [] (all_near points query starts) tt);
      found_right = least_held (all_near points query starts) (all_near_held starts all);
      visited_right = λ z h. absurd h;
      distinct = none_distinct;
    }

    -- a state of the loop: what has been walked and what is left make the whole
    pub record IsWalking (start now : Walk) (count : ℕ) : Type 0 where
      pub sound : IsSound now
      pub same : walk points row query beam (length points - count) now ≡ walk points row query beam (length points) start
      pub count_is : length now.visited ≡ count

    module _ (g : IsGraph (length points) held row) where
      pub sound_visit : (w : Walk) (p : Near) → IsSound w → next_of w ≡ Some p → IsSound (visit points row query beam w p)
      sound_visit w p s e =
          let at = has_found (λ x. not (is_in w.visited x)) w.found p e in
          let p_held = s.found_right p at.0 in
          record {
            rises = Rises-take near_cmp beam _ (Rises-fold_put near_cmp near_order [] (w.found ++ all_near points query (row p.id)) tt);
            found_right = least_held (w.found ++ all_near points query (row p.id)) (append_held w.found _ s.found_right (all_near_held (row p.id) (g.inside p.id p_held.0)));
            visited_right = λ z h. elim (has-push w.visited p z h) as (λ _. IsRight z) [ inl m ↦ s.visited_right z m | inr e ↦ subst (λ (y : Near). IsRight y) e p_held ];
            distinct = rw (map_push (λ (x : Near). x.id) w.visited p) (IsDistinct-push nat_eq_equiv (ids_of w.visited) p.id s.distinct (is_in-ids w.visited p ∙ not-true (is_in w.visited p) at.1));
          }

      pub few_visited : (w : Walk) → IsSound w → length w.visited ≤ length points
      few_visited w s =
          let few : length (ids_of w.visited) ≤ length points =
          length-le_from_distinct_below (ids_of w.visited) (length points) s.distinct (λ q h.
          let from = has-map (λ (x : Near). x.id) w.visited q (has_any (ids_of w.visited) q h) in
          subst (λ (u : ℕ). u < length points) from.2 (g.below from.0.id (s.visited_right from.0 from.1).0)) in
          subst (λ n. n ≤ length points) (length-map w.visited (λ (x : Near). x.id)) few

      -- where there is one to visit, not all are visited
      pub room_left : (w : Walk) (p : Near) → IsSound w → next_of w ≡ Some p → length w.visited < length points
      room_left w p s e =
          let few = few_visited (visit points row query beam w p) (sound_visit w p s e) in
          let more : length (w.visited ++ p ∷ []) ≡ length w.visited + 1 = length_push w.visited p in
          omega arith

      pub walking_none : (starts : List ℕ) → All (λ u. held u ≡ true) starts → IsWalking (start_of points row query beam starts) (start_of points row query beam starts) 0
      walking_none starts all = record {
        sound = sound_start starts all;
        same = let e : length points - 0 ≡ length points = omega arith in ap (λ n. walk points row query beam n (start_of points row query beam starts)) e;
        count_is = refl;
      }

      pub walking_room : {start now : Walk} {count : ℕ} (p : Near) → IsWalking start now count → next_of now ≡ Some p → count < length points
      walking_room {start} {now} p k e = subst (λ n. n < length points) k.count_is (room_left now p k.sound e)

      pub walking_more : {start now : Walk} {count : ℕ} (p : Near) → IsWalking start now count → next_of now ≡ Some p → IsWalking start (visit points row query beam now p) (count + 1)
      walking_more {start} {now} {count} p k e =
          let room = walking_room p k e in
          let one : length points - count ≡ suc (length points - (count + 1)) = omega arith in
          record {
            sound = sound_visit now p k.sound e;
            same =
                sym (walk_visit (length points - (count + 1)) now p e)
                ∙ ap (λ n. walk points row query beam n now) (sym one)
                ∙ k.same;
            count_is = length_push now.visited p ∙ ap (λ n. n + 1) k.count_is;
          }

      pub walking_all : {start now : Walk} {count : ℕ} → IsWalking start now count → next_of now ≡ None → now ≡ walk points row query beam (length points) start
      walking_all {start} {now} {count} k e = sym (walk_done (length points - count) now e) ∙ k.same

      -- and so in each later state
      pub sound_walk : (k : ℕ) (w : Walk) → IsSound w → IsSound (walk points row query beam k w)
      sound_walk zero w s = s
      sound_walk (suc k) w s =
          elim (next_of w) as (λ o. next_of w ≡ o → IsSound (option_map_or (λ p. walk points row query beam k (visit points row query beam w p)) o w)) [
            | None ↦ λ _. s
            | Some p ↦ λ e. sound_walk k (visit points row query beam w p) (sound_visit w p s e)
          ] refl
