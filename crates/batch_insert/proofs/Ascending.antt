-- Ids in ascending order.
use Rattle.std.proofs.Common.{◌≡◌, ℕ, zero, suc, ◌+◌, ◌<◌, ◌≤◌, Bool, true, false, cond, List, [], ◌∷◌, length, get_or, refl, sym, inl, inr, arith}
use Rattle.std.specs.Prelude.{◌==◌, ◌⊎◌}
use Rattle.std.specs.List.{filter, All, range_with_len}
use Rattle.std.specs.declared.cmp.Ordering.{Ordering}
use Rattle.std.specs.declared.cmp.Ordering.TheVariants.{Less}
use Rattle.std.specs.Ordering.{nat_cmp}
use Rattle.std.specs.Cmp.{nat_cmp_is}
use Rattle.std.proofs.lemmas.Bool.{eqb-true, eqb-false}
use Rattle.std.proofs.lemmas.Cmp.{ranked}
use Rattle.std.proofs.lemmas.List.Elements.{Contains-get_or}
use Rattle.ann_defs.specs.Graph.{has}
use Rattle.ann_defs.specs.Ordered.{Has, Rises, IsBelow, Ascends, ordered}
use Rattle.ann_defs.proofs.Order.{Rises-fold_put, fold_has, has_fold_new, All_has, below_has, has_from_Contains}
use Rattle.ann_defs.proofs.Members.{all_from_has, has_true, true_has, same_bool}
use Rattle.batch_insert.proofs.Grouping.{nat_order}

IsBelow-filter : {K : Type 0} (R : K → K → Ordering) (t : K → Bool) (x : K) (xs : List K) → IsBelow R x xs → IsBelow R x (filter t xs)
IsBelow-filter R t x [] h = tt
IsBelow-filter R t x (y ∷ xs) h = elim (t y) as (λ b. IsBelow R x (cond b (y ∷ filter t xs) (filter t xs))) [ true ↦ (h.0, IsBelow-filter R t x xs h.1) | false ↦ IsBelow-filter R t x xs h.1 ]

pub Rises-filter : {K : Type 0} (R : K → K → Ordering) (t : K → Bool) (xs : List K) → Rises R xs → Rises R (filter t xs)
Rises-filter R t [] h = tt
Rises-filter R t (x ∷ xs) h = elim (t x) as (λ b. Rises R (cond b (x ∷ filter t xs) (filter t xs))) [ true ↦ (IsBelow-filter R t x xs h.0, Rises-filter R t xs h.1) | false ↦ Rises-filter R t xs h.1 ]

range_below : (a from n : ℕ) → a < from → IsBelow nat_cmp a (range_with_len from n)
range_below a from zero h = tt
range_below a from (suc n) h = (sym (nat_cmp_is a from Less h), range_below a (from + 1) n (omega arith))

pub range_rises : (a n : ℕ) → Rises nat_cmp (range_with_len a n)
range_rises a zero = tt
range_rises a (suc n) = (range_below a (a + 1) n (omega arith), range_rises (a + 1) n)

pub in_range_has : (a n u : ℕ) → a ≤ u → u < a + n → Has (range_with_len a n) u
in_range_has a zero u h k = absurd (omega arith)
in_range_has a (suc n) u h k =
    elim (a == u) as (λ t. (a == u) ≡ t → (a ≡ u) ⊎ Has (range_with_len (a + 1) n) u) [
      | true ↦ λ e. inl (eqb-true a u e)
      | false ↦ λ e. let other = eqb-false a u e in inr (in_range_has (a + 1) n u (omega (arith, other)) (omega arith))
    ] refl

pub ordered_rises : (xs : List ℕ) → Rises nat_cmp (ordered nat_cmp xs)
ordered_rises xs = Rises-fold_put nat_cmp nat_order [] xs tt

pub ordered_has : (xs : List ℕ) (u : ℕ) → Has (ordered nat_cmp xs) u → Has xs u
ordered_has xs u h = elim (fold_has nat_cmp [] xs u h) as (λ _. Has xs u) [ inl n ↦ absurd n | inr m ↦ m ]

pub has_ordered : (xs : List ℕ) (u : ℕ) → Has xs u → Has (ordered nat_cmp xs) u
has_ordered xs u h = has_fold_new nat_cmp nat_order.exact [] xs u h

-- later ones are greater
pub rises_less : (xs : List ℕ) → Rises nat_cmp xs → (i j : ℕ) → i < j → j < length xs → get_or xs i 0 < get_or xs j 0
rises_less [] up i j h within = absurd (omega arith)
rises_less (x ∷ xs) up zero zero h within = absurd (omega arith)
rises_less (x ∷ xs) up zero (suc j) h within =
    ranked x (get_or xs j 0) Less (sym (below_has nat_cmp nat_order x (get_or xs j 0) xs up.0 (has_from_Contains xs (get_or xs j 0) (Contains-get_or xs j 0 (omega arith)))))
rises_less (x ∷ xs) up (suc i) zero h within = absurd (omega arith)
rises_less (x ∷ xs) up (suc i) (suc j) h within = rises_less xs up.1 i j (omega arith) (omega arith)

pub All-ordered : (P : ℕ → Type 0) (xs : List ℕ) → All P xs → All P (ordered nat_cmp xs)
All-ordered P xs h = all_from_has P (ordered nat_cmp xs) (λ u m. All_has P xs u h (ordered_has xs u m))

pub some_ordered : (xs : List ℕ) → 0 < length xs → 0 < length (ordered nat_cmp xs)
some_ordered [] h = absurd (omega arith)
some_ordered (x ∷ xs) h = not_empty (ordered nat_cmp (x ∷ xs)) (has_ordered (x ∷ xs) x (inl refl))
  where
    not_empty : (ys : List ℕ) → Has ys x → 0 < length ys
    not_empty [] m = absurd m
    not_empty (y ∷ ys) m = omega arith

-- it has the same members
pub has_same : (xs : List ℕ) (u : ℕ) → has (ordered nat_cmp xs) u ≡ has xs u
has_same xs u =
    same_bool (has (ordered nat_cmp xs) u) (has xs u)
    (λ h. true_has xs u (ordered_has xs u (has_true (ordered nat_cmp xs) u h)))
    (λ h. true_has (ordered nat_cmp xs) u (has_ordered xs u (has_true xs u h)))

-- by places, and one after another
pub ascends : (xs : List ℕ) → Rises nat_cmp xs → Ascends xs
ascends xs up j k h within = rises_less xs up j k h within

below_all : (x : ℕ) (xs : List ℕ) → ((k : ℕ) → k < length xs → x < get_or xs k 0) → IsBelow nat_cmp x xs
below_all x [] h = tt
below_all x (y ∷ xs) h = (sym (nat_cmp_is x y Less (h 0 (omega arith))), below_all x xs (λ k w. h (suc k) (omega (arith, w))))

pub rises : (xs : List ℕ) → Ascends xs → Rises nat_cmp xs
rises [] up = tt
rises (x ∷ xs) up = (below_all x xs (λ k w. up 0 (suc k) (omega arith) (omega (arith, w))), rises xs (λ j k h w. up (suc j) (suc k) (omega (arith, h)) (omega (arith, w))))
