-- Levels, and the ids of a layer.
use Rattle.std.proofs.Common.{◌≡◌, ℕ, zero, suc, ◌+◌, ◌<◌, ◌≤◌, Bool, true, false, cond, max, List, [], ◌∷◌, ◌++◌, length, get_or, refl, sym, ap, ◌∙◌, inl, inr, arith}
use Rattle.std.specs.Prelude.{◌⊎◌, ◌&&◌, nat_lt, nat_le}
use Rattle.std.specs.List.{fold, filter, range_with_len}
use Rattle.std.specs.Ordering.{nat_cmp}
use Rattle.std.proofs.lemmas.Bool.{cases_lt, ltb-true, lt-ltb, leb-true, le-leb, lt-leb}
use Rattle.std.proofs.lemmas.List.{get_or_default, append-nil}
use Rattle.std.proofs.lemmas.List.Elements.{filter-append}
use Rattle.ann_defs.specs.Graph.{has}
use Rattle.ann_defs.specs.Ordered.{Has, Ascends}
use Rattle.ann_defs.proofs.Order.{Contains-from_has}
use Rattle.ann_defs.proofs.Members.{and_both, both_and, filter_has, has-filter, has_true, true_has, same_bool}
use Rattle.batch_insert.proofs.Ascending.{Rises-filter, range_rises, ascends, in_range_has}
use Rattle.batch_insert.proofs.Differing.{range_more}
use Rattle.hnsw_build.specs.Layering.{level_in, top_of, is_in, ids_in}

fold_least : (acc : ℕ) (xs : List ℕ) → acc ≤ fold max acc xs
fold_least acc [] = omega arith
fold_least acc (x ∷ xs) = let rest = fold_least (max acc x) xs in omega (arith, rest)

fold_each : (acc : ℕ) (xs : List ℕ) (i : ℕ) → i < length xs → get_or xs i 0 ≤ fold max acc xs
fold_each acc [] i lt = absurd (omega arith)
fold_each acc (x ∷ xs) zero lt = let rest = fold_least (max acc x) xs in omega (arith, rest)
fold_each acc (x ∷ xs) (suc i) lt = fold_each (max acc x) xs i (omega arith)

fold_most : (acc most : ℕ) (xs : List ℕ) → acc ≤ most → ((x : ℕ) → Has xs x → x ≤ most) → fold max acc xs ≤ most
fold_most acc most [] h each = h
fold_most acc most (x ∷ xs) h each = let first = each x (inl refl) in fold_most (max acc x) most xs (omega (arith, first)) (λ y m. each y (inr m))

either_max : (a b : ℕ) → (max a b ≡ a) ⊎ (max a b ≡ b)
either_max a b = elim (cases_lt a b) as (λ _. (max a b ≡ a) ⊎ (max a b ≡ b)) [ inl less ↦ inr (omega arith) | inr more ↦ inl (omega arith) ]

fold_is : (acc : ℕ) (xs : List ℕ) → (fold max acc xs ≡ acc) ⊎ Has xs (fold max acc xs)
fold_is acc [] = inl refl
fold_is acc (x ∷ xs) =
    let top = fold max (max acc x) xs in
    elim (fold_is (max acc x) xs) as (λ _. (top ≡ acc) ⊎ ((x ≡ top) ⊎ Has xs top)) [
      | inl e ↦ elim (either_max acc x) as (λ _. (top ≡ acc) ⊎ ((x ≡ top) ⊎ Has xs top)) [ inl f ↦ inl (e ∙ f) | inr f ↦ inr (inl (sym (e ∙ f))) ]
      | inr m ↦ inr (inr m)
    ]

-- no level is above the top
pub level_most : (levels : List ℕ) (u : ℕ) → u < length levels → level_in levels u ≤ top_of levels
level_most levels u lt = fold_each 0 levels u lt

pub top_most : (levels : List ℕ) (most : ℕ) → ((x : ℕ) → Has levels x → x ≤ most) → top_of levels ≤ most
top_most levels most each = fold_most 0 most levels (omega arith) each

-- and some point is there
pub top_reached : (levels : List ℕ) → 1 ≤ length levels → (u : ℕ) × (u < length levels) × (level_in levels u ≡ top_of levels)
top_reached levels some = elim (fold_is 0 levels) as (λ _. (u : ℕ) × (u < length levels) × (level_in levels u ≡ top_of levels)) [
  | inl e ↦ (0, omega arith, (let low = level_most levels 0 (omega arith) in omega (arith, low, e)))
  | inr m ↦ let at = Contains-from_has levels (top_of levels) m in (at.0, at.1, get_or_default levels at.0 0 (top_of levels) at.1 ∙ at.2)
]

module _ (levels : List ℕ) where
  pub held_below : (l u : ℕ) → is_in levels l u ≡ true → u < length levels
  held_below l u h = ltb-true u (length levels) (and_both (nat_lt u (length levels)) (nat_le l (level_in levels u)) h).0

  pub held_level : (l u : ℕ) → is_in levels l u ≡ true → l ≤ level_in levels u
  held_level l u h = leb-true l (level_in levels u) (and_both (nat_lt u (length levels)) (nat_le l (level_in levels u)) h).1

  pub level_held : (l u : ℕ) → u < length levels → l ≤ level_in levels u → is_in levels l u ≡ true
  level_held l u below low = both_and (nat_lt u (length levels)) (nat_le l (level_in levels u)) (lt-ltb u (length levels) below) (le-leb l (level_in levels u) low)

  -- a layer holds what is held above
  pub held_down : (l m u : ℕ) → l ≤ m → is_in levels m u ≡ true → is_in levels l u ≡ true
  held_down l m u le h = let low = held_level m u h in level_held l u (held_below m u h) (omega (arith, low))

  -- layer 0 holds all ids
  pub base_held : (u : ℕ) → is_in levels 0 u ≡ nat_lt u (length levels)
  base_held u = ap (λ b. nat_lt u (length levels) && b) (le-leb 0 (level_in levels u) (omega arith)) ∙ and_true (nat_lt u (length levels))
    where
      and_true : (b : Bool) → (b && true) ≡ b
      and_true true = refl
      and_true false = refl

  pub ids_ascend : (l : ℕ) → Ascends (ids_in levels l)
  ids_ascend l = ascends (ids_in levels l) (Rises-filter nat_cmp (is_in levels l) (range_with_len 0 (length levels)) (range_rises 0 (length levels)))

-- a filtered list has those members that pass
pub has_filtered : (t : ℕ → Bool) (ids : List ℕ) (u : ℕ) → (has ids u && t u) ≡ has (filter t ids) u
has_filtered t ids u =
    same_bool (has ids u && t u) (has (filter t ids) u)
    (λ h. let both = and_both (has ids u) (t u) h in true_has (filter t ids) u (has-filter t ids u both.1 (has_true ids u both.0)))
    (λ h. let both = filter_has t ids u (has_true (filter t ids) u h) in both_and (has ids u) (t u) (true_has ids u both.0) both.1)

pub has_ids : (levels : List ℕ) (l u : ℕ) → has (ids_in levels l) u ≡ is_in levels l u
has_ids levels l u =
    same_bool (has (ids_in levels l) u) (is_in levels l u)
    (λ h. (filter_has (is_in levels l) (range_with_len 0 (length levels)) u (has_true (ids_in levels l) u h)).1)
    (λ h. let below = held_below levels l u h in true_has (ids_in levels l) u (has-filter (is_in levels l) (range_with_len 0 (length levels)) u h (in_range_has 0 (length levels) u (omega arith) (omega (arith, below)))))

-- one id more
module _ (levels : List ℕ) (l id : ℕ) (lt : id < length levels) where
  members_more : filter (is_in levels l) (range_with_len 0 (id + 1)) ≡ filter (is_in levels l) (range_with_len 0 id) ++ cond (nat_le l (level_in levels id)) (id ∷ []) []
  members_more =
      let z : 0 + id ≡ id = omega arith in
      let here : is_in levels l id ≡ nat_le l (level_in levels id) = ap (λ b. b && nat_le l (level_in levels id)) (lt-ltb id (length levels) lt) in
      ap (filter (is_in levels l)) (range_more 0 id ∙ ap (λ u. range_with_len 0 id ++ u ∷ []) z)
      ∙ filter-append (is_in levels l) (range_with_len 0 id) (id ∷ [])
      ∙ ap (λ b. filter (is_in levels l) (range_with_len 0 id) ++ cond b (id ∷ []) []) here

  pub members_kept : l ≤ level_in levels id → filter (is_in levels l) (range_with_len 0 (id + 1)) ≡ filter (is_in levels l) (range_with_len 0 id) ++ id ∷ []
  members_kept le = members_more ∙ ap (λ b. filter (is_in levels l) (range_with_len 0 id) ++ cond b (id ∷ []) []) (le-leb l (level_in levels id) le)

  pub members_left : level_in levels id < l → filter (is_in levels l) (range_with_len 0 (id + 1)) ≡ filter (is_in levels l) (range_with_len 0 id)
  members_left less = members_more ∙ ap (λ b. filter (is_in levels l) (range_with_len 0 id) ++ cond b (id ∷ []) []) (lt-leb l (level_in levels id) less) ∙ append-nil (filter (is_in levels l) (range_with_len 0 id))
