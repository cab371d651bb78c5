-- Pairs in order.
use Rattle.std.proofs.Common.{◌≡◌, ◌≢◌, ℕ, zero, suc, ◌+◌, ◌-◌, ◌<◌, ◌≤◌, Bool, true, false, cond, List, [], ◌∷◌, ◌++◌, map, take, drop, length, get_or, refl, sym, ap, ◌∙◌, subst, inl, inr, arith}
use Rattle.std.specs.Prelude.{◌==◌, ◌&&◌, ◌||◌, nat_eq, nat_le, nat_lt}
use Rattle.std.specs.List.{filter, fold, All, AllWithin, dedup}
use Rattle.std.specs.List.Sorted.{IsPermutation, IsSorted, IsStrictlySortedBy, IsNonDecreasingBy, IsPartitionPoint}
use Rattle.std.specs.Cmp.{eq_by_cmp_equiv, nat_cmp_is}
use Rattle.std.specs.declared.cmp.Ordering.{Ordering}
use Rattle.std.specs.declared.cmp.Ordering.TheVariants.{Less, Equal, Greater}
use Rattle.std.specs.Ordering.{nat_cmp, ordering_then, match_ordering, eq_by_cmp, is_eq}
use Rattle.std.proofs.lemmas.Cmp.{on_total, then_total, nat_cmp_total, ranked}
use Rattle.std.proofs.lemmas.Map.Lookups.{exact_pairs, exact_unsigned}
use Rattle.std.proofs.lemmas.Bool.{eq-eqb, ne_eqb, ltb-true, ltb-false, leb-true, leb-false}
use Rattle.std.proofs.lemmas.Grind.{fold-append}
use Rattle.std.proofs.lemmas.List.{get_or-take, get_or-drop, take-append-drop, length-drop, map_more, append-nil, length-take-le, get_or_default}
use Rattle.std.proofs.lemmas.List.Elements.{filter-append, All-head, All-tail, All-weaker, All-take, Contains-get_or}
use Rattle.std.proofs.lemmas.List.Sorted.{Contains-permutation, IsPermutation-sym}
use Rattle.std.proofs.lemmas.List.Kept.{IsStrictlySortedBy-dedup, Contains-dedup, Contains-from_dedup}
use Rattle.ann_defs.specs.Ordered.{put, ordered}
use Rattle.ann_defs.specs.Graph.{has}
use Rattle.ann_defs.specs.Ordered.{Has, Rises}
use Rattle.ann_defs.proofs.Order.{IsExactOrder, Rises-fold_put, same_rising, ordered_is, put_has, has_put_old, Rises-put, fold_has, has_fold_new, has-map, Contains-from_has, has_from_Contains, below_has}
use Rattle.batch_insert.specs.declared.pair.Pair.{Pair}
use Rattle.batch_insert.specs.Proposing.{pair_cmp, targets_of, proposed_to}
use Rattle.ann_defs.proofs.Members.{has-mapped}

pub nat_order : IsExactOrder nat_cmp
nat_order = record { total = nat_cmp_total; exact = exact_unsigned }

pub pair_order : IsExactOrder pair_cmp
pair_order = record {
  total = then_total (on_total (λ (x : Pair). x.target) nat_cmp_total) (on_total (λ (x : Pair). x.source) nat_cmp_total);
  exact = λ a b h. ap (λ (p : ℕ × ℕ). record { target = p.0; source = p.1 }) (exact_pairs nat_cmp nat_cmp exact_unsigned exact_unsigned (a.target, a.source) (b.target, b.source) h);
}

pub Rises-from_sorted : {K : Type 0} (R : K → K → Ordering) (xs : List K) → IsStrictlySortedBy R xs → Rises R xs
unfolding IsStrictlySortedBy
Rises-from_sorted R [] h = tt
Rises-from_sorted R (x ∷ xs) h = (h.0, Rises-from_sorted R xs h.1)

-- a filter that drops all, and one that keeps all
pub filter_none : {K : Type 0} (p : K → Bool) (xs : List K) → All (λ x. p x ≡ false) xs → filter p xs ≡ []
filter_none p [] h = refl
filter_none p (x ∷ xs) h = ap (λ b. cond b (x ∷ filter p xs) (filter p xs)) (All-head (λ x. p x ≡ false) x xs h) ∙ filter_none p xs (All-tail (λ x. p x ≡ false) x xs h)

pub filter_each : {K : Type 0} (p : K → Bool) (xs : List K) → All (λ x. p x ≡ true) xs → filter p xs ≡ xs
filter_each p [] h = refl
filter_each p (x ∷ xs) h = ap (λ b. cond b (x ∷ filter p xs) (filter p xs)) (All-head (λ x. p x ≡ true) x xs h) ∙ ap (λ ys. x ∷ ys) (filter_each p xs (All-tail (λ x. p x ≡ true) x xs h))

-- by places, of the parts
all_below : {K : Type 0} (P : K → Type 0) (xs : List K) (i : ℕ) → i ≤ length xs → AllWithin P xs 0 i → All P (take i xs)
all_below P xs i bound h k d within =
    let short : k < i = omega (arith, length-take-le i xs bound, within) in
    subst P (sym (get_or-take i xs k d short)) (h k d (omega arith) short)

all_above : {K : Type 0} (P : K → Type 0) (xs : List K) (i : ℕ) → AllWithin P xs i (length xs) → All P (drop i xs)
all_above P xs i h k d within =
    let there : i + k < length xs = omega (arith, length-drop i xs, within) in
    subst P (sym (get_or-drop i xs k d)) (h (i + k) d (omega arith) there)

-- the part that two searches find
pub part_is : (pairs : List Pair) (t from count : ℕ) → IsPartitionPoint (λ (p : Pair). nat_lt p.target t ≡ true) (λ (p : Pair). nat_lt p.target t ≡ false) pairs from → from ≤ length pairs → IsPartitionPoint (λ (p : Pair). nat_le p.target t ≡ true) (λ (p : Pair). nat_le p.target t ≡ false) (drop from pairs) count → count ≤ length (drop from pairs) → take count (drop from pairs) ≡ proposed_to pairs t
part_is pairs t from count first bound second bound' =
    let test = λ (p : Pair). p.target == t in
    let rest = drop from pairs in
    let below : All (λ (p : Pair). nat_lt p.target t ≡ true) (take from pairs) = all_below (λ (p : Pair). nat_lt p.target t ≡ true) pairs from bound first.0 in
    let least : All (λ (p : Pair). nat_lt p.target t ≡ false) rest = all_above (λ (p : Pair). nat_lt p.target t ≡ false) pairs from first.1 in
    let most : All (λ (p : Pair). nat_le p.target t ≡ true) (take count rest) = all_below (λ (p : Pair). nat_le p.target t ≡ true) rest count bound' second.0 in
    let above : All (λ (p : Pair). nat_le p.target t ≡ false) (drop count rest) = all_above (λ (p : Pair). nat_le p.target t ≡ false) rest count second.1 in
    let none_low : filter test (take from pairs) ≡ [] = filter_none test (take from pairs) (All-weaker (λ (p : Pair). nat_lt p.target t ≡ true) (λ (p : Pair). test p ≡ false) (λ p h. ne_eqb p.target t (λ e. let less = ltb-true p.target t h in omega (arith, less, e))) (take from pairs) below) in
    let none_high : filter test (drop count rest) ≡ [] = filter_none test (drop count rest) (All-weaker (λ (p : Pair). nat_le p.target t ≡ false) (λ (p : Pair). test p ≡ false) (λ p h. ne_eqb p.target t (λ e. let more = leb-false p.target t h in omega (arith, more, e))) (drop count rest) above) in
    let each : filter test (take count rest) ≡ take count rest = filter_each test (take count rest) (λ k d h.
    let low = ltb-false (get_or (take count rest) k d).target t (All-take (λ (p : Pair). nat_lt p.target t ≡ false) count rest least k d h) in
    let high = leb-true (get_or (take count rest) k d).target t (most k d h) in
    eq-eqb (get_or (take count rest) k d).target t (omega (arith, low, high))) in
    sym (ap (filter test) (sym (take-append-drop from pairs))
    ∙ filter-append test (take from pairs) rest
    ∙ ap (λ ys. ys ++ filter test rest) none_low
    ∙ ap (filter test) (sym (take-append-drop count rest))
    ∙ filter-append test (take count rest) (drop count rest)
    ∙ (λ i. each i ++ none_high i)
    ∙ append-nil (take count rest))

-- a number above all of a list, and one that is there
put_above : (ys : List ℕ) (x : ℕ) → ((y : ℕ) → Has ys y → y < x) → put nat_cmp ys x ≡ ys ++ x ∷ []
put_above [] x h = refl
put_above (y ∷ ys) x h =
    let greater : Greater ≡ nat_cmp x y = nat_cmp_is x y Greater (h y (inl refl)) in
    ap (λ r. match_ordering r (x ∷ y ∷ ys) (y ∷ ys) (y ∷ put nat_cmp ys x)) (sym greater) ∙ ap (λ zs. y ∷ zs) (put_above ys x (λ z m. h z (inr m)))

put_there : (ys : List ℕ) (x : ℕ) → Rises nat_cmp ys → Has ys x → put nat_cmp ys x ≡ ys
put_there ys x up h = same_rising nat_cmp nat_order (put nat_cmp ys x) ys (Rises-put nat_cmp nat_order ys x up) up
    (λ z m. elim (put_has nat_cmp ys x z m) as (λ _. Has ys z) [ inl e ↦ subst (Has ys) e h | inr k ↦ k ])
    (λ z m. has_put_old nat_cmp ys x z m)

-- one more target
module _ (pairs : List Pair) (sorted : IsNonDecreasingBy (λ (p : Pair). p.target) pairs) (i : ℕ) (d : Pair) (within : i < length pairs) where
  abbrev x : ℕ
  x = (get_or pairs i d).target

  abbrev before : List ℕ
  before = targets_of (take i pairs)

  stepped : targets_of (take (i + 1) pairs) ≡ put nat_cmp before x
  stepped = ap (fold (put nat_cmp) []) (map_more (λ (p : Pair). p.target) pairs i d within) ∙ fold-append (put nat_cmp) [] (map (λ (p : Pair). p.target) (take i pairs)) (x ∷ [])

  before_rises : Rises nat_cmp before
  before_rises = Rises-fold_put nat_cmp nat_order [] (map (λ (p : Pair). p.target) (take i pairs)) tt

  -- a target so far is one of a pair so far
  before_from : (y : ℕ) → Has before y → (k : ℕ) × (k < i) × ((get_or pairs k d).target ≡ y)
  before_from y h =
      elim (fold_has nat_cmp [] (map (λ (p : Pair). p.target) (take i pairs)) y h) as (λ _. (k : ℕ) × (k < i) × ((get_or pairs k d).target ≡ y)) [
        | inl n ↦ absurd n
        | inr m ↦
            let from = has-map (λ (p : Pair). p.target) (take i pairs) y m in
            let at = Contains-from_has (take i pairs) from.0 from.1 in
            let short : at.0 < i = omega (arith, length-take-le i pairs (omega arith), at.1) in
            let same : get_or pairs at.0 d ≡ from.0 = get_or_default pairs at.0 d from.0 (omega (arith, short)) ∙ sym (get_or-take i pairs at.0 from.0 short) ∙ at.2 in
            (at.0, short, ap (λ (p : Pair). p.target) same ∙ from.2)
      ]

  pub targets_none : i ≡ 0 → targets_of (take (i + 1) pairs) ≡ before ++ x ∷ []
  targets_none e = stepped ∙ put_above before x (λ y h. let from = before_from y h in let less = from.1 in omega (arith, less, e))

  pub targets_new : 0 < i → (get_or pairs (i - 1) d).target ≢ x → targets_of (take (i + 1) pairs) ≡ before ++ x ∷ []
  targets_new some other =
      let last = sorted (i - 1) i d (omega arith) within in
      let below : (get_or pairs (i - 1) d).target < x = omega (arith, last, other) in
      stepped ∙ put_above before x (λ y h.
      let from = before_from y h in
      let less = from.1 in
      let same = from.2 in
      let up = sorted from.0 (i - 1) d (omega (arith, less)) (omega (arith, within)) in
      omega (arith, up, below, same))

  pub targets_old : 0 < i → (get_or pairs (i - 1) d).target ≡ x → targets_of (take (i + 1) pairs) ≡ before
  targets_old some same =
      let short : i - 1 < length (take i pairs) = omega (arith, length-take-le i pairs (omega arith)) in
      let item : get_or (take i pairs) (i - 1) d ≡ get_or pairs (i - 1) d = get_or-take i pairs (i - 1) d (omega arith) in
      let there : Has (map (λ (p : Pair). p.target) (take i pairs)) x = subst (Has (map (λ (p : Pair). p.target) (take i pairs))) (ap (λ (p : Pair). p.target) item ∙ same)
      (has-mapped (λ (p : Pair). p.target) (take i pairs) (get_or (take i pairs) (i - 1) d) (has_from_Contains (take i pairs) (get_or (take i pairs) (i - 1) d) (Contains-get_or (take i pairs) (i - 1) d short))) in
      stepped ∙ put_there before x before_rises (has_fold_new nat_cmp nat_order.exact [] (map (λ (p : Pair). p.target) (take i pairs)) x there)

-- what comes first by a number has no greater one
pub first_least : (a b : ℕ) (r : Ordering) → ordering_then (nat_cmp a b) r ≡ Less → a ≤ b
first_least a b r h =
    elim (nat_cmp a b) as (λ s. s ≡ nat_cmp a b → ordering_then s r ≡ Less → a ≤ b) [
      | Less ↦ λ e _. let less : a < b = ranked a b Less e in omega (arith, less)
      | Equal ↦ λ e _. let same : a ≡ b = ranked a b Equal e in omega (arith, same)
      | Greater ↦ λ _ k. cc
    ] refl h

-- a number that is no greater in what comes first never falls in order
module _ {K : Type 0} (R : K → K → Ordering) (order : IsExactOrder R) (number : K → ℕ) (least : (a b : K) → R a b ≡ Less → number a ≤ number b) where
  pub rising_by : (xs : List K) → Rises R xs → IsNonDecreasingBy number xs
  rising_by [] up i j d h within = absurd (omega arith)
  rising_by (x ∷ xs) up zero zero d h within = omega arith
  rising_by (x ∷ xs) up zero (suc j) d h within =
      least x (get_or xs j d) (below_has R order x (get_or xs j d) xs up.0 (has_from_Contains xs (get_or xs j d) (Contains-get_or xs j d (omega arith))))
  rising_by (x ∷ xs) up (suc i) zero d h within = absurd (omega arith)
  rising_by (x ∷ xs) up (suc i) (suc j) d h within = rising_by xs up.1 i j d (omega arith) (omega arith)

  pub ordered_by : (xs : List K) → IsNonDecreasingBy number (ordered R xs)
  ordered_by xs = rising_by (ordered R xs) (Rises-fold_put R order [] xs tt)

-- in order, the targets never fall
pub ordered_targets : (xs : List Pair) → IsNonDecreasingBy (λ (p : Pair). p.target) (ordered pair_cmp xs)
ordered_targets = ordered_by pair_cmp pair_order (λ (p : Pair). p.target) (λ a b. first_least a.target b.target (nat_cmp a.source b.source))

-- a sorted list without doubles is the set in order
module _ {K : Type 0} (R : K → K → Ordering) (order : IsExactOrder R) where
  pub sorted_once : (E : K → K → Bool) → ((x y : K) → E x y ≡ eq_by_cmp R x y) → (xs sorted : List K) → IsPermutation xs sorted → IsSorted R sorted → dedup E sorted ≡ ordered R xs
  sorted_once E ties xs sorted moved up =
      let T = eq_by_cmp R in
      let same : E ≡ T = λ i x y. ties x y i in
      let equal : (x y : K) → T x y ≡ true → x ≡ y = λ x y h. order.exact x y (is_equal (R x y) h) in
      ap (λ (e : K → K → Bool). dedup e sorted) same
      ∙ sym (ordered_is R order xs (dedup T sorted)
      (Rises-from_sorted R (dedup T sorted) (IsStrictlySortedBy-dedup order.total (λ x y. refl) sorted up))
      (λ z h. has_from_Contains (dedup T sorted) z (Contains-dedup (eq_by_cmp_equiv order.total) equal sorted z (Contains-permutation xs sorted z moved (Contains-from_has xs z h))))
      (λ z h. has_from_Contains xs z (Contains-permutation sorted xs z (IsPermutation-sym xs sorted moved) (Contains-from_dedup T sorted z (Contains-from_has (dedup T sorted) z h)))))
    where
      is_equal : (r : Ordering) → is_eq r ≡ true → r ≡ Equal
      is_equal Less h = cc
      is_equal Equal h = refl
      is_equal Greater h = cc

-- two numbers are the same where they compare as equal
pub nat_ties : (a b : ℕ) → nat_eq a b ≡ is_eq (nat_cmp a b)
nat_ties a b =
    elim (nat_cmp a b) as (λ r. r ≡ nat_cmp a b → nat_eq a b ≡ is_eq r) [
      | Less ↦ λ e. let less : a < b = ranked a b Less e in ne_eqb a b (λ q. omega (arith, less, q))
      | Equal ↦ λ e. eq-eqb a b (ranked a b Equal e)
      | Greater ↦ λ e. let more : b < a = ranked a b Greater e in ne_eqb a b (λ q. omega (arith, more, q))
    ] refl

pub then_eq : (r s : Ordering) → is_eq (ordering_then r s) ≡ (is_eq r && is_eq s)
then_eq Less s = refl
then_eq Equal s = refl
then_eq Greater s = refl

pub pair_ties : (x y : Pair) → (nat_eq x.target y.target && nat_eq x.source y.source) ≡ eq_by_cmp pair_cmp x y
pair_ties x y = (λ i. nat_ties x.target y.target i && nat_ties x.source y.source i) ∙ sym (then_eq (nat_cmp x.target y.target) (nat_cmp x.source y.source))

-- numbers that rise
pub rising_numbers : (xs : List ℕ) → Rises nat_cmp xs → (i j : ℕ) → i ≤ j → j < length xs → get_or xs i 0 ≤ get_or xs j 0
rising_numbers xs up i j = rising_by nat_cmp nat_order (λ x. x) (λ a b e. let less : a < b = ranked a b Less (sym e) in omega (arith, less)) xs up i j 0

pub targets_rise : (pairs : List Pair) → Rises nat_cmp (targets_of pairs)
targets_rise pairs = Rises-fold_put nat_cmp nat_order [] (map (λ (p : Pair). p.target) pairs) tt

-- a number that stands nowhere
pub has_none : (xs : List ℕ) (u : ℕ) → ((k : ℕ) → k < length xs → get_or xs k 0 ≡ u → ⊥) → has xs u ≡ false
has_none [] u h = refl
has_none (x ∷ xs) u h = ap (λ b. b || has xs u) (ne_eqb x u (h 0 (omega arith))) ∙ has_none xs u (λ k w e. h (suc k) (omega (arith, w)) e)
