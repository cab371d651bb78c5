-- What is gathered.
use Rattle.std.proofs.Common.{◌≡◌, ◌≢◌, ℕ, ◌+◌, ◌<◌, ◌≤◌, true, false, cond, not, List, [], ◌∷◌, ◌++◌, map, take, length, get_or, refl, sym, ap, ◌∙◌, subst, inl, inr}
use Rattle.std.specs.Prelude.{◌==◌, ◌||◌, ◌⊎◌, nat_eq}
use Rattle.std.specs.List.{fold, All, IsDistinct, list_any}
use Rattle.std.proofs.lemmas.Grind.{fold-append}
use Rattle.std.proofs.lemmas.Bool.{eqb-true, eqb-false, or_parts, or_cases, not-true, ne_eqb}
use Rattle.std.proofs.lemmas.Cmp.{nat_eq_equiv}
use Rattle.std.proofs.lemmas.List.{map_push, take_more, map_more, length-map}
use Rattle.std.proofs.lemmas.Map.Keys.{IsDistinct-push}
use Rattle.std.proofs.lemmas.Map.Steps.{length-le_from_distinct_below}
use Rattle.ann_defs.specs.declared.near.Near.{Near}
use Rattle.ann_defs.specs.Distance.{point}
use Rattle.ann_defs.specs.Nearness.{near_of, all_near, ids_of}
use Rattle.ann_defs.specs.GreedySearch.{is_in}
use Rattle.ann_defs.specs.Graph.{has, without}
use Rattle.ann_defs.specs.Ordered.{Has}
use Rattle.ann_defs.proofs.Order.{has-map, has-push, All_has}
use Rattle.ann_defs.proofs.Members.{all_from_has, has-mapped, has-append, append-has, has-filter, filter_has, has_true, true_has, same_bool}
use Rattle.near_lists.specs.Gathered.{add_once, gathered, IsGathered}

none_distinct : IsDistinct nat_eq []
unfolding IsDistinct
none_distinct = tt

-- one more item of a fold in a loop
pub fold_more : {A B : Type 0} (h : B → A → B) (b : B) (xs : List A) (i : ℕ) (d : A) → i < length xs → fold h b (take (i + 1) xs) ≡ h (fold h b (take i xs)) (get_or xs i d)
fold_more h b xs i d lt = ap (fold h b) (take_more xs i d lt) ∙ fold-append h b (take i xs) (get_or xs i d ∷ [])

pub fold_map_more : {J A B : Type 0} (h : B → A → B) (f : J → A) (b : B) (xs : List J) (i : ℕ) (d : J) → i < length xs → fold h b (map f (take (i + 1) xs)) ≡ h (fold h b (map f (take i xs))) (f (get_or xs i d))
fold_map_more h f b xs i d lt = ap (fold h b) (map_more f xs i d lt) ∙ fold-append h b (map f (take i xs)) (f (get_or xs i d) ∷ [])

pub has-pushed : {K : Type 0} (xs : List K) (y z : K) → Has xs z ⊎ (y ≡ z) → Has (xs ++ y ∷ []) z
has-pushed [] y z h = elim h as (λ _. (y ≡ z) ⊎ ⊥) [ inl m ↦ absurd m | inr e ↦ inl e ]
has-pushed (x ∷ xs) y z h =
    elim h as (λ _. (x ≡ z) ⊎ Has (xs ++ y ∷ []) z) [
      | inl m ↦ elim m as (λ _. (x ≡ z) ⊎ Has (xs ++ y ∷ []) z) [ inl e ↦ inl e | inr k ↦ inr (has-pushed xs y z (inl k)) ]
      | inr e ↦ inr (has-pushed xs y z (inr e))
    ]

any_here : (nears : List Near) (x : Near) → is_in nears x ≡ true → (z : Near) × Has nears z × (z.id ≡ x.id)
any_here [] x h = cc
any_here (y ∷ nears) x h =
    elim (or_cases (x.id == y.id) (is_in nears x) h) as (λ _. (z : Near) × Has (y ∷ nears) z × (z.id ≡ x.id)) [
      | inl e ↦ (y, inl refl, sym (eqb-true x.id y.id e))
      | inr m ↦ let rest = any_here nears x m in (rest.0, inr rest.1, rest.2)
    ]

is_in-ids : (nears : List Near) (x : Near) → list_any (nat_eq x.id) (ids_of nears) ≡ is_in nears x
is_in-ids [] x = refl
is_in-ids (y ∷ nears) x = ap (λ b. nat_eq x.id y.id || b) (is_in-ids nears x)

module _ (p : ℕ) where
  -- distinct ids other than p
  pub record IsOnce (acc : List Near) : Type 0 where
    pub distinct : IsDistinct nat_eq (ids_of acc)
    pub others : (z : Near) → Has acc z → z.id ≢ p

  once_more : (acc : List Near) (x : Near) → IsOnce acc → IsOnce (add_once p acc x)
  once_more acc x k =
      elim (x.id == p || is_in acc x) as (λ b. (x.id == p || is_in acc x) ≡ b → IsOnce (cond b acc (acc ++ x ∷ []))) [
        | true ↦ λ _. k
        | false ↦ λ e. let parts = or_parts (x.id == p) (is_in acc x) e in record {
          distinct = rw (map_push (λ (z : Near). z.id) acc x) (IsDistinct-push nat_eq_equiv (ids_of acc) x.id k.distinct (is_in-ids acc x ∙ parts.1));
          others = λ z h. elim (has-push acc x z h) as (λ _. z.id ≢ p) [ inl m ↦ k.others z m | inr e ↦ subst (λ (y : Near). y.id ≢ p) e (eqb-false x.id p parts.0) ];
        }
      ] refl

  pub once_all : (acc xs : List Near) → IsOnce acc → IsOnce (fold (add_once p) acc xs)
  once_all acc [] k = k
  once_all acc (x ∷ xs) k = once_all (add_once p acc x) xs (once_more acc x k)

  added_has : (acc : List Near) (x z : Near) → Has (add_once p acc x) z → Has acc z ⊎ (x ≡ z)
  added_has acc x z h =
      elim (x.id == p || is_in acc x) as (λ b. Has (cond b acc (acc ++ x ∷ [])) z → Has acc z ⊎ (x ≡ z)) [ true ↦ λ h. inl h | false ↦ λ h. has-push acc x z h ] h

  has_added : (acc : List Near) (x z : Near) → Has acc z → Has (add_once p acc x) z
  has_added acc x z h =
      elim (x.id == p || is_in acc x) as (λ b. Has (cond b acc (acc ++ x ∷ [])) z) [ true ↦ h | false ↦ has-pushed acc x z (inl h) ]

  -- what is gathered comes from the list
  pub gathered_has : (acc xs : List Near) (z : Near) → Has (fold (add_once p) acc xs) z → Has acc z ⊎ Has xs z
  gathered_has acc [] z h = inl h
  gathered_has acc (x ∷ xs) z h =
      elim (gathered_has (add_once p acc x) xs z h) as (λ _. Has acc z ⊎ ((x ≡ z) ⊎ Has xs z)) [
        | inl m ↦ elim (added_has acc x z m) as (λ _. Has acc z ⊎ ((x ≡ z) ⊎ Has xs z)) [ inl k ↦ inl k | inr e ↦ inr (inl e) ]
        | inr m ↦ inr (inr m)
      ]

  has_gathered_old : (acc xs : List Near) (z : Near) → Has acc z → Has (fold (add_once p) acc xs) z
  has_gathered_old acc [] z h = h
  has_gathered_old acc (x ∷ xs) z h = has_gathered_old (add_once p acc x) xs z (has_added acc x z h)

  -- each id of the list other than p is gathered
  pub id_gathered : (acc xs : List Near) (x : Near) → Has xs x → x.id ≢ p → (z : Near) × Has (fold (add_once p) acc xs) z × (z.id ≡ x.id)
  id_gathered acc [] x h n = absurd h
  id_gathered acc (y ∷ xs) x h n =
      elim h as (λ _. (z : Near) × Has (fold (add_once p) (add_once p acc y) xs) z × (z.id ≡ x.id)) [
        | inl e ↦
            let here : (z : Near) × Has (add_once p acc y) z × (z.id ≡ y.id) =
            elim (y.id == p || is_in acc y) as (λ b. (y.id == p || is_in acc y) ≡ b → (z : Near) × Has (cond b acc (acc ++ y ∷ [])) z × (z.id ≡ y.id)) [
              | true ↦ λ t. elim (or_cases (y.id == p) (is_in acc y) t) as (λ _. (z : Near) × Has acc z × (z.id ≡ y.id)) [
                | inl q ↦ absurd (n (ap (λ (w : Near). w.id) (sym e) ∙ eqb-true y.id p q))
                | inr q ↦ any_here acc y q
              ]
              | false ↦ λ _. (y, has-pushed acc y y (inr refl), refl)
            ] refl in
            (here.0, has_gathered_old (add_once p acc y) xs here.0 here.1, here.2 ∙ ap (λ (w : Near). w.id) e)
        | inr m ↦ id_gathered (add_once p acc y) xs x m n
      ]

-- what is gathered has the ids of the set without p
module _ (points : List (List ℕ)) (p : ℕ) (visited : List Near) (extra : List ℕ) (right : (z : Near) → Has visited z → z ≡ near_of points (point points p) z.id) where
  abbrev items : List Near
  items = visited ++ all_near points (point points p) extra

  abbrev set : List ℕ
  set = without p (ids_of visited ++ extra)

  -- each item has its right distance
  pub items_right : (z : Near) → Has items z → z ≡ near_of points (point points p) z.id
  items_right z h =
      elim (has-append visited (all_near points (point points p) extra) z h) as (λ _. z ≡ near_of points (point points p) z.id) [
        | inl m ↦ right z m
        | inr m ↦ let from = has-map (near_of points (point points p)) extra z m in
            sym from.2 ∙ ap (λ (y : Near). near_of points (point points p) y.id) from.2
      ]

  item_id : (z : Near) → Has items z → Has (ids_of visited ++ extra) z.id
  item_id z h =
      elim (has-append visited (all_near points (point points p) extra) z h) as (λ _. Has (ids_of visited ++ extra) z.id) [
        | inl m ↦ append-has (ids_of visited) extra z.id (inl (has-mapped (λ (y : Near). y.id) visited z m))
        | inr m ↦ let from = has-map (near_of points (point points p)) extra z m in
            append-has (ids_of visited) extra z.id (inr (subst (λ (u : ℕ). Has extra u) (ap (λ (y : Near). y.id) from.2) from.1))
      ]

  id_item : (u : ℕ) → Has (ids_of visited ++ extra) u → (z : Near) × Has items z × (z.id ≡ u)
  id_item u h =
      elim (has-append (ids_of visited) extra u h) as (λ _. (z : Near) × Has items z × (z.id ≡ u)) [
        | inl m ↦ let from = has-map (λ (y : Near). y.id) visited u m in
            (from.0, append-has visited (all_near points (point points p) extra) from.0 (inl from.1), from.2)
        | inr m ↦ (near_of points (point points p) u, append-has visited (all_near points (point points p) extra) _ (inr (has-mapped (near_of points (point points p)) extra u m)), refl)
      ]

  none_once : IsOnce p []
  none_once = record { distinct = none_distinct; others = λ z h. absurd h }

  pub gathered_once : IsOnce p (gathered p items)
  gathered_once = once_all p [] items none_once

  pub gathered_item : (z : Near) → Has (gathered p items) z → Has items z
  gathered_item z h = elim (gathered_has p [] items z h) as (λ _. Has items z) [ inl m ↦ absurd m | inr m ↦ m ]

  -- the ids of what is gathered are those of the set
  pub from_set : (u : ℕ) → Has (ids_of (gathered p items)) u → Has set u
  from_set u h =
      let from = has-map (λ (y : Near). y.id) (gathered p items) u h in
      let other : from.0.id ≢ p = gathered_once.others from.0 from.1 in
      subst (Has set) from.2 (has-filter (λ x. not (x == p)) (ids_of visited ++ extra) from.0.id (ap not (ne_eqb from.0.id p other)) (item_id from.0 (gathered_item from.0 from.1)))

  pub of_set : (u : ℕ) → Has set u → Has (ids_of (gathered p items)) u
  of_set u h =
      let parts = filter_has (λ x. not (x == p)) (ids_of visited ++ extra) u h in
      let item = id_item u parts.0 in
      let other : item.0.id ≢ p = λ e. eqb-false u p (not-true (u == p) parts.1) (sym item.2 ∙ e) in
      let got = id_gathered p [] items item.0 item.1 other in
      subst (Has (ids_of (gathered p items))) (got.2 ∙ item.2) (has-mapped (λ (y : Near). y.id) (gathered p items) got.0 got.1)

-- what is gathered from the visited and the extra ids
pub is_gathered : (points : List (List ℕ)) (p : ℕ) (visited : List Near) (extra : List ℕ) → All (λ (z : Near). z.id < length points) visited → All (λ (z : Near). z ≡ near_of points (point points p) z.id) visited → All (λ (u : ℕ). u < length points) extra → IsGathered points p (ids_of visited ++ extra) (gathered p (visited ++ all_near points (point points p) extra))
is_gathered points p visited extra below near inside =
    let q = point points p in
    let right : (z : Near) → Has visited z → z ≡ near_of points q z.id = λ z h. All_has (λ (y : Near). y ≡ near_of points q y.id) visited z near h in
    let nears = gathered p (visited ++ all_near points q extra) in
    let once = gathered_once points p visited extra right in
    let item = gathered_item points p visited extra right in
    record {
      in_range = all_from_has (λ (z : Near). z.id < length points) nears (λ z h.
          elim (has-append visited (all_near points q extra) z (item z h)) as (λ _. z.id < length points) [
            | inl m ↦ All_has (λ (y : Near). y.id < length points) visited z below m
            | inr m ↦ let from = has-map (near_of points q) extra z m in
                subst (λ (y : Near). y.id < length points) from.2 (All_has (λ v. v < length points) extra from.0 inside from.1)
          ]);
      near = all_from_has (λ (z : Near). z ≡ near_of points q z.id) nears (λ z h. items_right points p visited extra right z (item z h));
      distinct = once.distinct;
      others = all_from_has (λ (z : Near). z.id ≢ p) nears once.others;
      members = λ u. same_bool (has (ids_of nears) u) (has (without p (ids_of visited ++ extra)) u)
          (λ h. true_has (without p (ids_of visited ++ extra)) u (from_set points p visited extra right u (has_true (ids_of nears) u h)))
          (λ h. true_has (ids_of nears) u (of_set points p visited extra right u (has_true (without p (ids_of visited ++ extra)) u h)));
    }

any_has : (xs : List ℕ) (q : ℕ) → list_any (nat_eq q) xs ≡ true → Has xs q
any_has [] q h = cc
any_has (x ∷ xs) q h = elim (or_cases (nat_eq q x) (list_any (nat_eq q) xs) h) as (λ _. (x ≡ q) ⊎ Has xs q) [ inl e ↦ inl (sym (eqb-true q x e)) | inr m ↦ inr (any_has xs q m) ]

-- distinct points are at most all of them
pub few_distinct : (n : ℕ) (nears : List Near) → All (λ (x : Near). x.id < n) nears → IsDistinct nat_eq (ids_of nears) → length nears ≤ n
few_distinct n nears below distinct =
    let few : length (ids_of nears) ≤ n =
    length-le_from_distinct_below (ids_of nears) n distinct (λ q h.
    let from = has-map (λ (x : Near). x.id) nears q (any_has (ids_of nears) q h) in
    subst (λ (u : ℕ). u < n) from.2 (All_has (λ (x : Near). x.id < n) nears from.0 below from.1)) in
    subst (λ m. m ≤ n) (length-map nears (λ (x : Near). x.id)) few
