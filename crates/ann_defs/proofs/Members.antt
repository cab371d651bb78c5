-- Members of lists, and lists that have each once.
use Rattle.std.proofs.Common.{◌≡◌, ℕ, zero, suc, ◌+◌, ◌<◌, ◌≤◌, Bool, true, false, cond, List, [], ◌∷◌, ◌++◌, map, refl, sym, ap, ◌∙◌, subst, inl, inr, arith}
use Rattle.std.specs.Prelude.{◌==◌, ◌||◌, ◌&&◌, ◌⊎◌, nat_eq}
use Rattle.std.specs.List.{filter, flat_map, All, AllByRecursion, IsDistinct, range_with_len}
use Rattle.std.proofs.lemmas.Bool.{eqb-true, eqb-false, eq-eqb, or_cases, ne_eqb}
use Rattle.std.proofs.lemmas.List.Elements.{All-nil, All-cons}
use Rattle.ann_defs.specs.Graph.{has}
use Rattle.ann_defs.specs.Ordered.{Has}

pub all_from_has : {K : Type 0} (P : K → Type 0) (xs : List K) → ((z : K) → Has xs z → P z) → All P xs
all_from_has P [] f = All-nil P
all_from_has P (x ∷ xs) f = All-cons P x xs (f x (inl refl)) (all_from_has P xs (λ z h. f z (inr h)))

pub has-mapped : {J K : Type 0} (f : J → K) (xs : List J) (x : J) → Has xs x → Has (map f xs) (f x)
has-mapped f [] x h = absurd h
has-mapped f (y ∷ ys) x h = elim h as (λ _. (f y ≡ f x) ⊎ Has (map f ys) (f x)) [ inl e ↦ inl (ap f e) | inr m ↦ inr (has-mapped f ys x m) ]

pub has-append : {K : Type 0} (xs ys : List K) (z : K) → Has (xs ++ ys) z → Has xs z ⊎ Has ys z
has-append [] ys z h = inr h
has-append (x ∷ xs) ys z h =
    elim h as (λ _. ((x ≡ z) ⊎ Has xs z) ⊎ Has ys z) [
      | inl e ↦ inl (inl e)
      | inr m ↦ elim (has-append xs ys z m) as (λ _. ((x ≡ z) ⊎ Has xs z) ⊎ Has ys z) [ inl k ↦ inl (inr k) | inr k ↦ inr k ]
    ]

pub append-has : {K : Type 0} (xs ys : List K) (z : K) → Has xs z ⊎ Has ys z → Has (xs ++ ys) z
append-has [] ys z h = elim h as (λ _. Has ys z) [ inl m ↦ absurd m | inr m ↦ m ]
append-has (x ∷ xs) ys z h =
    elim h as (λ _. (x ≡ z) ⊎ Has (xs ++ ys) z) [
      | inl m ↦ elim m as (λ _. (x ≡ z) ⊎ Has (xs ++ ys) z) [ inl e ↦ inl e | inr k ↦ inr (append-has xs ys z (inl k)) ]
      | inr k ↦ inr (append-has xs ys z (inr k))
    ]

pub has-flat : {J K : Type 0} (f : J → List K) (xs : List J) (z : K) → Has (flat_map f xs) z → (x : J) × Has xs x × Has (f x) z
has-flat f [] z h = absurd h
has-flat {J} f (x ∷ xs) z h =
    elim (has-append (f x) (flat_map f xs) z h) as (λ _. (y : J) × ((x ≡ y) ⊎ Has xs y) × Has (f y) z) [
      | inl m ↦ (x, inl refl, m)
      | inr m ↦ let rest = has-flat f xs z m in (rest.0, inr rest.1, rest.2)
    ]

pub flat-has : {J K : Type 0} (f : J → List K) (xs : List J) (x : J) (z : K) → Has xs x → Has (f x) z → Has (flat_map f xs) z
flat-has f [] x z h k = absurd h
flat-has f (y ∷ ys) x z h k =
    elim h as (λ _. Has (f y ++ flat_map f ys) z) [
      | inl e ↦ append-has (f y) (flat_map f ys) z (inl (subst (λ w. Has (f w) z) (sym e) k))
      | inr m ↦ append-has (f y) (flat_map f ys) z (inr (flat-has f ys x z m k))
    ]

-- two truths that follow from each other
pub same_bool : (a b : Bool) → (a ≡ true → b ≡ true) → (b ≡ true → a ≡ true) → a ≡ b
same_bool true b f g = sym (f refl)
same_bool false true f g = g refl
same_bool false false f g = refl

pub has-filter : {K : Type 0} (t : K → Bool) (xs : List K) (u : K) → t u ≡ true → Has xs u → Has (filter t xs) u
has-filter t [] u e h = absurd h
has-filter t (x ∷ xs) u e h =
    elim h as (λ _. Has (cond (t x) (x ∷ filter t xs) (filter t xs)) u) [
      | inl q ↦ rw (ap t q ∙ e) (inl q)
      | inr m ↦ elim (t x) as (λ b. Has (cond b (x ∷ filter t xs) (filter t xs)) u) [ true ↦ inr (has-filter t xs u e m) | false ↦ has-filter t xs u e m ]
    ]

pub filter_has : {K : Type 0} (t : K → Bool) (xs : List K) (u : K) → Has (filter t xs) u → Has xs u × (t u ≡ true)
filter_has t [] u h = absurd h
filter_has t (x ∷ xs) u h =
    elim (t x) as (λ b. t x ≡ b → Has (cond b (x ∷ filter t xs) (filter t xs)) u → ((x ≡ u) ⊎ Has xs u) × (t u ≡ true)) [
      | true ↦ λ e h. elim h as (λ _. ((x ≡ u) ⊎ Has xs u) × (t u ≡ true)) [
        | inl q ↦ (inl q, ap t (sym q) ∙ e)
        | inr m ↦ let rest = filter_has t xs u m in (inr rest.0, rest.1)
      ]
      | false ↦ λ _ h. let rest = filter_has t xs u h in (inr rest.0, rest.1)
    ] refl h

-- the test is the membership
pub has_true : (ids : List ℕ) (u : ℕ) → has ids u ≡ true → Has ids u
has_true [] u h = cc
has_true (x ∷ ids) u h = elim (or_cases (x == u) (has ids u) h) as (λ _. (x ≡ u) ⊎ Has ids u) [ inl e ↦ inl (eqb-true x u e) | inr m ↦ inr (has_true ids u m) ]

pub true_has : (ids : List ℕ) (u : ℕ) → Has ids u → has ids u ≡ true
true_has [] u h = absurd h
true_has (x ∷ ids) u h =
    elim h as (λ _. (x == u || has ids u) ≡ true) [
      | inl e ↦ ap (λ b. b || has ids u) (eq-eqb x u e)
      | inr m ↦ elim (x == u) as (λ b. (b || has ids u) ≡ true) [ true ↦ refl | false ↦ true_has ids u m ]
    ]

-- each once
abbrev pub Once : {K : Type 0} → List K → Type 0
Once [] = Unit {0}
Once (x ∷ xs) = (Has xs x → ⊥) × Once xs

pub once_distinct : (xs : List ℕ) → IsDistinct nat_eq xs → Once xs
unfolding IsDistinct
once_distinct [] h = tt
once_distinct (x ∷ xs) h = (λ m. not_among x xs h.0 m, once_distinct xs h.1)
  where
    not_among : (x : ℕ) (xs : List ℕ) → AllByRecursion (λ y. nat_eq x y ≡ false) xs → Has xs x → ⊥
    not_among x [] h m = m
    not_among x (y ∷ xs) h m = elim m as (λ _. ⊥) [ inl e ↦ eqb-false x y h.0 (sym e) | inr k ↦ not_among x xs h.1 k ]

pub distinct_once : (xs : List ℕ) → Once xs → IsDistinct nat_eq xs
unfolding IsDistinct
distinct_once [] h = tt
distinct_once (x ∷ xs) h = (all_apart x xs h.0, distinct_once xs h.1)
  where
    all_apart : (x : ℕ) (xs : List ℕ) → (Has xs x → ⊥) → AllByRecursion (λ y. nat_eq x y ≡ false) xs
    all_apart x [] n = tt
    all_apart x (y ∷ xs) n = (ne_eqb x y (λ e. n (inl (sym e))), all_apart x xs (λ m. n (inr m)))

pub Once-filter : {K : Type 0} (t : K → Bool) (xs : List K) → Once xs → Once (filter t xs)
Once-filter t [] h = tt
Once-filter t (x ∷ xs) h =
    elim (t x) as (λ b. Once (cond b (x ∷ filter t xs) (filter t xs))) [
      | true ↦ (λ m. h.0 (filter_has t xs x m).0, Once-filter t xs h.1)
      | false ↦ Once-filter t xs h.1
    ]

pub Once-append : {K : Type 0} (xs ys : List K) → Once xs → Once ys → ((z : K) → Has xs z → Has ys z → ⊥) → Once (xs ++ ys)
Once-append [] ys h k apart = k
Once-append (x ∷ xs) ys h k apart = (
  λ m. elim (has-append xs ys x m) as (λ _. ⊥) [ inl a ↦ h.0 a | inr b ↦ apart x (inl refl) b ],
  Once-append xs ys h.1 k (λ z a b. apart z (inr a) b),
)

pub and_both : (a b : Bool) → (a && b) ≡ true → (a ≡ true) × (b ≡ true)
and_both true true h = (refl, refl)
and_both true false h = cc
and_both false b h = cc

pub both_and : (a b : Bool) → a ≡ true → b ≡ true → (a && b) ≡ true
both_and true true h k = refl
both_and true false h k = cc
both_and false b h k = cc

-- the ids from a on
pub range_has : (a n u : ℕ) → Has (range_with_len a n) u → (a ≤ u) × (u < a + n)
range_has a zero u h = absurd h
range_has a (suc n) u h =
    elim h as (λ _. (a ≤ u) × (u < a + suc n)) [
      | inl e ↦ (omega (arith, e), omega (arith, e))
      | inr m ↦ let rest = range_has (a + 1) n u m in (omega (arith, rest.0), omega (arith, rest.1))
    ]

pub range_once : (a n : ℕ) → Once (range_with_len a n)
range_once a zero = tt
range_once a (suc n) = (λ m. let rest = range_has (a + 1) n a m in let below : a + 1 ≤ a = rest.0 in omega arith, range_once (a + 1) n)
