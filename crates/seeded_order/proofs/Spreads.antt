-- Sums of squared gaps, and the id with the least of them.
use Rattle.std.proofs.Common.{◌≡◌, ℕ, zero, suc, ◌+◌, ◌-◌, ◌*◌, ◌<◌, ◌≤◌, List, [], ◌∷◌, ◌++◌, length, get_or, refl, sym, ap, ◌∙◌, arith, add-one, zero-add}
use Rattle.std.specs.List.{range_with_len, sum_by}
use Rattle.std.specs.Cmp.{nat_cmp_is}
use Rattle.std.specs.declared.cmp.Ordering.{Ordering}
use Rattle.std.specs.declared.cmp.Ordering.TheVariants.{Less, Equal, Greater}
use Rattle.std.specs.Ordering.{nat_cmp, ordering_then, match_ordering}
use Rattle.std.proofs.lemmas.Cmp.{ranked}
use Rattle.std.proofs.lemmas.Nat.{mul-le}
use Rattle.std.proofs.lemmas.List.Sums.{fold_push, sum_by_push}
use Rattle.ann_defs.specs.Distance.{dim_of, point, squared_gap}
use Rattle.ann_defs.specs.Ordered.{ordered, put}
use Rattle.seeded_order.specs.Medoid.{column_sum, spread}
use Rattle.seeded_order.proofs.Fronts.{range_more}
use Rattle.seeded_order.proofs.KeyedOrder.{by, ids_by, length_ids}

-- the sizes of what is summed
column_small : (n x : ℕ) → n ≤ 4194304 → x ≤ 255 → n * x ≤ 1069547520
column_small n x h k = mul-le n x 4194304 255 h k

pub gap_small : (n x s a b g : ℕ) → n ≤ 4194304 → x < 256 → s ≤ 1069547520 → a ≡ n → b ≡ x → g ≡ a * b - s + (s - a * b) → g ≤ 1069547520
gap_small n x s a b g h k l p q e =
    let most : a * b ≤ 1069547520 = column_small a b (omega arith) (omega arith) in
    omega arith

pub square_small : (g : ℕ) → g ≤ 1069547520 → g * g ≤ 1152921504606846976
square_small g h = let most = mul-le g g 1069547520 1069547520 h h in omega (arith, most)

-- two functions with the same values below n
pub same_sums : (f g : ℕ → ℕ) (n : ℕ) → ((j : ℕ) → j < n → f j ≡ g j) → sum_by f (range_with_len 0 n) ≡ sum_by g (range_with_len 0 n)
same_sums f g zero h = refl
same_sums f g (suc n) h =
    let more : range_with_len 0 (suc n) ≡ range_with_len 0 n ++ n ∷ [] = ap (range_with_len 0) (sym (add-one n)) ∙ range_more 0 n n (zero-add n) in
    let rest = same_sums f g n (λ j k. h j (omega arith)) in
    let last = h n (omega arith) in
    ap (sum_by f) more ∙ sum_by_push f (range_with_len 0 n) n ∙ (λ i. rest i + last i) ∙ sym (sum_by_push g (range_with_len 0 n) n) ∙ sym (ap (sum_by g) more)

-- one column more
pub sum_more : (f : ℕ → ℕ) (n : ℕ) → sum_by f (range_with_len 0 (n + 1)) ≡ sum_by f (range_with_len 0 n) + f n
sum_more f n = ap (sum_by f) (range_more 0 n n (zero-add n)) ∙ sum_by_push f (range_with_len 0 n) n

-- a point's sum of squared gaps
pub spread_is : (points : List (List ℕ)) (sums row : List ℕ) (n u r : ℕ) → n ≡ length points → row ≡ point points u → length row ≡ dim_of points → ((j : ℕ) → j < dim_of points → get_or sums j 0 ≡ column_sum points j) → r ≡ sum_by (λ j. squared_gap (n * get_or row j 0) (get_or sums j 0)) (range_with_len 0 (length row)) → r ≡ spread points u
spread_is points sums row n u r count at dim columns e =
    e
    ∙ ap (λ (d : ℕ). sum_by (λ j. squared_gap (n * get_or row j 0) (get_or sums j 0)) (range_with_len 0 d)) dim
    ∙ same_sums (λ j. squared_gap (n * get_or row j 0) (get_or sums j 0)) (λ j. squared_gap (length points * get_or (point points u) j 0) (column_sum points j)) (dim_of points)
    (λ j h. λ i. squared_gap (count i * get_or (at i) j 0) (columns j h i))

module _ (key : ℕ → ℕ) where
  -- the first of the ids below n
  abbrev pub first : ℕ → ℕ
  first n = get_or (ids_by key n) 0 0

  ids_more : (n : ℕ) → ids_by key (n + 1) ≡ put (by key) (ids_by key n) n
  ids_more n = ap (ordered (by key)) (range_more 0 n n (zero-add n)) ∙ fold_push (put (by key)) [] (range_with_len 0 n) n

  put_first : (ys : List ℕ) (x : ℕ) → 0 < length ys → by key x (get_or ys 0 0) ≡ Less → get_or (put (by key) ys x) 0 0 ≡ x
  put_first [] x some e = absurd (omega arith)
  put_first (y ∷ ys) x some e = ap (λ (r : Ordering). get_or (match_ordering r (x ∷ y ∷ ys) (y ∷ ys) (y ∷ put (by key) ys x)) 0 0) e

  put_later : (ys : List ℕ) (x : ℕ) → 0 < length ys → by key x (get_or ys 0 0) ≡ Greater → get_or (put (by key) ys x) 0 0 ≡ get_or ys 0 0
  put_later [] x some e = absurd (omega arith)
  put_later (y ∷ ys) x some e = ap (λ (r : Ordering). get_or (match_ordering r (x ∷ y ∷ ys) (y ∷ ys) (y ∷ put (by key) ys x)) 0 0) e

  pub best_takes : (n b : ℕ) → 1 ≤ n → b ≡ first n → key n < key b → n ≡ first (n + 1)
  best_takes n b some e less =
      let long = length_ids key n in
      let first' : nat_cmp (key n) (key b) ≡ Less = sym (nat_cmp_is (key n) (key b) Less less) in
      let lower : by key n (first n) ≡ Less = ap (λ (z : ℕ). by key n z) (sym e) ∙ ap (λ (r : Ordering). ordering_then r (nat_cmp n b)) first' in
      sym (ap (λ (ids : List ℕ). get_or ids 0 0) (ids_more n) ∙ put_first (ids_by key n) n (omega (arith, long)) lower)

  pub best_keeps : (n b : ℕ) → 1 ≤ n → b ≡ first n → b < n → key b ≤ key n → b ≡ first (n + 1)
  best_keeps n b some e below more =
      let long = length_ids key n in
      let behind : nat_cmp n b ≡ Greater = sym (nat_cmp_is n b Greater below) in
      let higher : by key n b ≡ Greater =
      elim (nat_cmp (key n) (key b)) as (λ r. nat_cmp (key n) (key b) ≡ r → ordering_then r (nat_cmp n b) ≡ Greater) [
        | Less ↦ λ f. let less : key n < key b = ranked (key n) (key b) Less (sym f) in absurd (omega arith)
        | Equal ↦ λ _. behind
        | Greater ↦ λ _. refl
      ] refl in
      sym (ap (λ (ids : List ℕ). get_or ids 0 0) (ids_more n) ∙ put_later (ids_by key n) n (omega (arith, long)) (ap (λ (z : ℕ). by key n z) (sym e) ∙ higher) ∙ sym e)
