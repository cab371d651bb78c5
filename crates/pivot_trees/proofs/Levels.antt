-- The lists of the depths of a tree, and its leaves.
use Rattle.std.proofs.Common.{◌≡◌, ℕ, zero, suc, ◌+◌, ◌-◌, ◌*◌, ◌<◌, ◌≤◌, true, false, cond, not, List, [], ◌∷◌, ◌++◌, length, refl, sym, ap, ◌∙◌, subst, inl, inr, arith}
use Rattle.std.specs.Prelude.{◌⊎◌}
use Rattle.std.specs.List.{filter, flat_map, sum_by, All, range_with_len}
use Rattle.std.proofs.lemmas.Bool.{cases_Bool, ltb-true}
use Rattle.std.proofs.lemmas.List.{append-nil}
use Rattle.std.proofs.lemmas.List.Concat.{flat_map-append}
use Rattle.std.proofs.lemmas.List.Filters.{sum_by-filter_both}
use Rattle.std.proofs.lemmas.List.Sums.{sum_by-cons}
use Rattle.ann_defs.specs.Graph.{has}
use Rattle.ann_defs.specs.Ordered.{Has}
use Rattle.ann_defs.proofs.Members.{has-append, append-has, has-filter, filter_has, true_has, all_from_has, range_has}
use Rattle.seeded_order.proofs.Counts.{has_range}
use Rattle.seeded_order.proofs.Fronts.{range_more}
use Rattle.pivot_trees.specs.Leaves.{Level, is_long, is_short, parts_from, level_at, leaves_at, leaves_of, place_of_id}
use Rattle.pivot_trees.specs.Grown.{IsGrown}
use Rattle.pivot_trees.specs.Blocks.{AreSplittable}
use Rattle.pivot_trees.proofs.Splitting.{parts_split, sum-parts, part_of_list, id_in_part}

abbrev size : List ℕ → ℕ
size ids = length ids

length-range : (a n : ℕ) → length (range_with_len a n) ≡ n
length-range a zero = refl
length-range a (suc n) = ap suc (length-range (a + 1) n)

has-head : {K : Type 0} (xs : List K) → 0 < length xs → (z : K) × Has xs z
has-head [] lt = absurd (omega arith)
has-head (x ∷ xs) lt = (x, inl refl)

-- each list of at least one id: no more lists than ids
lists_few : (lists : List (List ℕ)) → ((ids : List ℕ) → Has lists ids → 1 ≤ length ids) → length lists ≤ sum_by size lists
lists_few [] some = omega arith
lists_few (ids ∷ rest) some =
    let first = some ids (inl refl) in
    let more = lists_few rest (λ x h. some x (inr h)) in
    let sizes = sum_by-cons size ids rest in
    omega (arith, first, more, sizes)

size_most : (lists : List (List ℕ)) (ids : List ℕ) → Has lists ids → length ids ≤ sum_by size lists
size_most [] ids h = absurd h
size_most (x ∷ rest) ids h =
    let sizes = sum_by-cons size x rest in
    elim h as (λ _. length ids ≤ sum_by size (x ∷ rest)) [
      | inl e ↦ let same = ap size e in omega (arith, same, sizes)
      | inr m ↦ let more = size_most rest ids m in omega (arith, more, sizes)
    ]

module _ (points : List (List ℕ)) (seed tree leaf : ℕ) where
  abbrev n : ℕ
  n = length points

  abbrev at : ℕ → Level
  at d = level_at points seed tree leaf d

  abbrev long_at : ℕ → List (List ℕ)
  long_at d = filter (is_long leaf) (at d).lists

  pub level_next : (d : ℕ) → at (d + 1) ≡ record { first = (at d).first + length (long_at d); lists = parts_from points seed tree d (at d).first (long_at d) }
  level_next d = let one : d + 1 ≡ suc d = omega arith in ap at one

  pub total_at : (d : ℕ) → sum_by size (at d).lists ≤ n
  total_at zero = let all = length-range 0 n in omega (arith, all)
  total_at (suc d) =
      let before = total_at d in
      let parts = sum-parts points seed tree d (at d).first (long_at d) in
      let some = sum_by-filter_both (is_long leaf) (is_short leaf) (λ _. refl) size (at d).lists in
      omega (arith, before, parts, some)

  pub long_total : (d : ℕ) → sum_by size (long_at d) ≤ n
  long_total d =
      let all = total_at d in
      let some = sum_by-filter_both (is_long leaf) (is_short leaf) (λ _. refl) size (at d).lists in
      omega (arith, all, some)

  pub long_size : (d : ℕ) (ids : List ℕ) → Has (long_at d) ids → leaf < length ids
  long_size d ids h = ltb-true leaf (length ids) (filter_has (is_long leaf) (at d).lists ids h).1

  pub inside_at : (d : ℕ) (ids : List ℕ) → Has (at d).lists ids → (u : ℕ) → Has ids u → u < n
  inside_at zero ids h u m = elim h as (λ _. u < n) [
    | inl e ↦ let below = range_has 0 n u (subst (λ (xs : List ℕ). Has xs u) (sym e) m) in omega (arith, below.1)
    | inr k ↦ absurd k
  ]
  inside_at (suc d) ids h u m =
      let part = part_of_list points seed tree d (at d).first (long_at d) ids h in
      let list = (filter_has (is_long leaf) (at d).lists part.ids part.there).0 in
      let split = parts_split points seed tree d part.number part.ids in
      inside_at d part.ids list u (elim part.is as (λ _. Has part.ids u) [
        | inl e ↦ split.from_list u (inl (subst (λ (xs : List ℕ). Has xs u) e m))
        | inr e ↦ split.from_list u (inr (subst (λ (xs : List ℕ). Has xs u) e m))
      ])

  -- a list at depth d has lost d ids at least
  pub short_at : 2 ≤ leaf → (d : ℕ) (ids : List ℕ) → Has (at d).lists ids → length ids + d ≤ n
  short_at two zero ids h = elim h as (λ _. length ids + 0 ≤ n) [
    | inl e ↦ let all = length-range 0 n in let same = ap size e in omega (arith, all, same)
    | inr k ↦ absurd k
  ]
  short_at two (suc d) ids h =
      let part = part_of_list points seed tree d (at d).first (long_at d) ids h in
      let long = filter_has (is_long leaf) (at d).lists part.ids part.there in
      let before = short_at two d part.ids long.0 in
      let many = ltb-true leaf (length part.ids) long.1 in
      let split = parts_split points seed tree d part.number part.ids in
      let total = split.total in
      let left = split.left (omega (arith, two, many)) in
      let right = split.right (omega (arith, two, many)) in
      elim part.is as (λ _. length ids + suc d ≤ n) [
        | inl e ↦ let same = ap size e in omega (arith, same, before, total, left, right)
        | inr e ↦ let same = ap size e in omega (arith, same, before, total, left, right)
      ]

  -- so that no list is long at depth n
  pub long_depth : 2 ≤ leaf → (d : ℕ) → 0 < length (long_at d) → d + 2 < n
  long_depth two d some =
      let one = has-head (long_at d) some in
      let list = filter_has (is_long leaf) (at d).lists one.0 one.1 in
      let many = ltb-true leaf (length one.0) list.1 in
      let short = short_at two d one.0 list.0 in
      omega (arith, two, many, short)

  pub few_long : 2 ≤ leaf → (d : ℕ) → length (long_at d) ≤ n
  few_long two d =
      let few = lists_few (long_at d) (λ ids h. let many = long_size d ids h in omega (arith, two, many)) in
      let all = long_total d in
      omega (arith, few, all)

  -- numbers are small
  pub first_small : 2 ≤ leaf → (d : ℕ) → (at d).first ≤ d * n
  first_small two zero = omega arith
  first_small two (suc d) =
      let before = first_small two d in
      let few = few_long two d in
      let next : suc d * n ≡ d * n + n = omega arith in
      omega (arith, before, few, next)

  pub splittable : 2 ≤ leaf → (d : ℕ) → AreSplittable n (long_at d)
  splittable two d = record {
    inside = all_from_has (λ (ids : List ℕ). All (λ u. u < n) ids) (long_at d) (λ ids h. all_from_has (λ u. u < n) ids (λ u m. inside_at d ids (filter_has (is_long leaf) (at d).lists ids h).0 u m));
    some = all_from_has (λ (ids : List ℕ). 2 ≤ length ids) (long_at d) (λ ids h. let many = long_size d ids h in omega (arith, two, many));
  }

  pub long_short : (d : ℕ) → All (λ ids. length ids ≤ n) (long_at d)
  long_short d = all_from_has (λ (ids : List ℕ). length ids ≤ n) (long_at d) (λ ids h. let most = size_most (long_at d) ids h in let all = long_total d in omega (arith, most, all))

  -- the leaves of all depths below d
  abbrev leaves_to : ℕ → List (List ℕ)
  leaves_to d = flat_map (leaves_at points seed tree leaf) (range_with_len 0 d)

  pub leaves_more : (d : ℕ) → leaves_to (d + 1) ≡ leaves_to d ++ leaves_at points seed tree leaf d
  leaves_more d =
      ap (flat_map (leaves_at points seed tree leaf)) (range_more 0 d d (omega arith))
      ∙ flat_map-append (leaves_at points seed tree leaf) (range_with_len 0 d) (d ∷ [])
      ∙ ap (λ (xs : List (List ℕ)). leaves_to d ++ xs) (append-nil (leaves_at points seed tree leaf d))

  -- the next depth in one step
  pub leaves_next : (d : ℕ) (first : ℕ) (lists : List (List ℕ)) → first ≡ (at d).first → lists ≡ long_at d → leaves_to (d + 1 + 1) ≡ leaves_to (d + 1) ++ filter (is_short leaf) (parts_from points seed tree d first lists)
  leaves_next d first lists e f = leaves_more (d + 1) ∙ ap (λ (xs : List (List ℕ)). leaves_to (d + 1) ++ filter (is_short leaf) xs) (ap (λ (l : Level). l.lists) (level_next d) ∙ (λ i. parts_from points seed tree d (sym e i) (sym f i)))

  pub long_next : (d : ℕ) (first : ℕ) (lists : List (List ℕ)) → first ≡ (at d).first → lists ≡ long_at d → long_at (d + 1) ≡ filter (is_long leaf) (parts_from points seed tree d first lists)
  long_next d first lists e f = ap (λ (l : Level). filter (is_long leaf) l.lists) (level_next d) ∙ (λ i. filter (is_long leaf) (parts_from points seed tree d (sym e i) (sym f i)))

  pub first_next : (d : ℕ) (first : ℕ) (lists : List (List ℕ)) → first ≡ (at d).first → lists ≡ long_at d → (at (d + 1)).first ≡ first + length lists
  first_next d first lists e f = ap (λ (l : Level). l.first) (level_next d) ∙ (λ i. sym e i + length (sym f i))

  -- below a depth with no long list there is nothing
  none_below : (d k : ℕ) → long_at d ≡ [] → (at (d + suc k)).lists ≡ []
  none_below d zero none =
      let one : d + suc zero ≡ d + 1 = omega arith in
      ap (λ m. (at m).lists) one ∙ ap (λ (l : Level). l.lists) (level_next d) ∙ ap (parts_from points seed tree d (at d).first) none
  none_below d (suc k) none =
      let one : d + suc (suc k) ≡ d + suc k + 1 = omega arith in
      ap (λ m. (at m).lists) one ∙ ap (λ (l : Level). l.lists) (level_next (d + suc k)) ∙ ap (λ (xs : List (List ℕ)). parts_from points seed tree (d + suc k) (at (d + suc k)).first (filter (is_long leaf) xs)) (none_below d k none)

  leaves_stay : (d k : ℕ) → long_at d ≡ [] → leaves_to (d + 1 + k) ≡ leaves_to (d + 1)
  leaves_stay d zero none = let same : d + 1 + 0 ≡ d + 1 = omega arith in ap leaves_to same
  leaves_stay d (suc k) none =
      let one : d + 1 + suc k ≡ d + 1 + k + 1 = omega arith in
      let here : d + 1 + k ≡ d + suc k = omega arith in
      let nothing : leaves_at points seed tree leaf (d + 1 + k) ≡ [] = ap (λ m. filter (is_short leaf) (at m).lists) here ∙ ap (filter (is_short leaf)) (none_below d k none) in
      ap leaves_to one ∙ leaves_more (d + 1 + k) ∙ ap (λ (xs : List (List ℕ)). leaves_to (d + 1 + k) ++ xs) nothing ∙ append-nil (leaves_to (d + 1 + k)) ∙ leaves_stay d k none

  -- the leaves are all there
  pub leaves_done : (d : ℕ) → d + 1 ≤ n → long_at d ≡ [] → leaves_to (d + 1) ≡ leaves_of points seed tree leaf
  leaves_done d within none =
      let all : d + 1 + (n - (d + 1)) ≡ n = omega arith in
      sym (leaves_stay d (n - (d + 1)) none) ∙ ap leaves_to all

  -- each id is in a leaf or in a long list
  covered : (d u : ℕ) → u < n → ((ids : List ℕ) × Has (leaves_to d) ids × Has ids u) ⊎ ((ids : List ℕ) × Has (at d).lists ids × Has ids u)
  covered zero u lt = inr (range_with_len 0 n, inl refl, has_range 0 n u (omega arith) (omega (arith, lt)))
  covered (suc d) u lt =
      let one : d + 1 ≡ suc d = omega arith in
      let more : leaves_to (suc d) ≡ leaves_to d ++ leaves_at points seed tree leaf d = ap leaves_to (sym one) ∙ leaves_more d in
      let kept : (ids : List ℕ) → Has (leaves_to d) ids ⊎ Has (leaves_at points seed tree leaf d) ids → Has (leaves_to (suc d)) ids = λ ids h. subst (λ (xs : List (List ℕ)). Has xs ids) (sym more) (append-has (leaves_to d) (leaves_at points seed tree leaf d) ids h) in
      elim (covered d u lt) as (λ _. ((ids : List ℕ) × Has (leaves_to (suc d)) ids × Has ids u) ⊎ ((ids : List ℕ) × Has (at (suc d)).lists ids × Has ids u)) [
        | inl done ↦ inl (done.0, kept done.0 (inl done.1), done.2)
        | inr list ↦ elim (cases_Bool (is_long leaf list.0)) as (λ _. ((ids : List ℕ) × Has (leaves_to (suc d)) ids × Has ids u) ⊎ ((ids : List ℕ) × Has (at (suc d)).lists ids × Has ids u)) [
          | inl long ↦ inr (id_in_part points seed tree d (at d).first (long_at d) list.0 u (has-filter (is_long leaf) (at d).lists list.0 long list.1) list.2)
          | inr short ↦ inl (list.0, kept list.0 (inr (has-filter (is_short leaf) (at d).lists list.0 (ap not short) list.1)), list.2)
        ]
      ]

  -- the last lists are leaves
  pub each_in_leaf : 2 ≤ leaf → 1 ≤ n → (u : ℕ) → u < n → (ids : List ℕ) × Has (leaves_of points seed tree leaf) ids × Has ids u
  each_in_leaf two some u lt =
      elim (covered n u lt) as (λ _. (ids : List ℕ) × Has (leaves_of points seed tree leaf) ids × Has ids u) [
        | inl done ↦ done
        | inr list ↦
            let short = short_at two n list.0 list.1 in
            let one : 0 < length list.0 = has_some list.0 u list.2 in
            absurd (omega (arith, short, one))
      ]
    where
      has_some : (xs : List ℕ) (z : ℕ) → Has xs z → 0 < length xs
      has_some [] z h = absurd h
      has_some (x ∷ xs) z h = omega arith

  leaves_inside : (d : ℕ) (ids : List ℕ) → Has (leaves_to d) ids → (u : ℕ) → Has ids u → u < n
  leaves_inside zero ids h u m = absurd h
  leaves_inside (suc d) ids h u m =
      let one : d + 1 ≡ suc d = omega arith in
      let more : leaves_to (suc d) ≡ leaves_to d ++ leaves_at points seed tree leaf d = ap leaves_to (sym one) ∙ leaves_more d in
      elim (has-append (leaves_to d) (leaves_at points seed tree leaf d) ids (subst (λ (xs : List (List ℕ)). Has xs ids) more h)) as (λ _. u < n) [
        | inl k ↦ leaves_inside d ids k u m
        | inr k ↦ inside_at d ids (filter_has (is_short leaf) (at d).lists ids k).0 u m
      ]

-- the first leaf that has an id is there
placed : (leaves : List (List ℕ)) (ids : List ℕ) (u : ℕ) → Has leaves ids → Has ids u → place_of_id leaves u < length leaves
placed [] ids u h m = absurd h
placed (x ∷ rest) ids u h m = elim h as (λ _. cond (not (has x u)) (1 + place_of_id rest u) 0 < length (x ∷ rest)) [
  | inl e ↦ let here : has x u ≡ true = true_has x u (subst (λ (xs : List ℕ). Has xs u) (sym e) m) in subst (λ b. cond (not b) (1 + place_of_id rest u) 0 < length (x ∷ rest)) (sym here) (omega arith)
  | inr k ↦ let more = placed rest ids u k m in elim (has x u) as (λ b. cond (not b) (1 + place_of_id rest u) 0 < length (x ∷ rest)) [ true ↦ omega arith | false ↦ omega (arith, more) ]
]

pub grown : (points : List (List ℕ)) (seed tree leaf : ℕ) → 2 ≤ leaf → 1 ≤ length points → IsGrown (record { count = length points; leaves = leaves_of points seed tree leaf })
grown points seed tree leaf two some = record {
  inside = all_from_has (λ (ids : List ℕ). All (λ u. u < length points) ids) (leaves_of points seed tree leaf) (λ ids h. all_from_has (λ u. u < length points) ids (λ u m. leaves_inside points seed tree leaf (length points) ids h u m));
  each = λ id lt. let found = each_in_leaf points seed tree leaf two some id lt in placed (leaves_of points seed tree leaf) found.0 id found.1 found.2;
}
