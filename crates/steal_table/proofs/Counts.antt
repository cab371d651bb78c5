-- What all numbers ran is all of the tasks.
use Rattle.std.proofs.Common.{◌≡◌, ◌⊎◌, ℕ, zero, suc, ◌+◌, ◌<◌, ◌≤◌, Bool, true, false, cond, List, [], ◌∷◌, length, map, sum, count_by, All, take, get_or, refl, sym, ap, ◌∙◌, ⊎_elim, arith}
use lib.Dec.{ltb, eqb}
use mir.Val.{bool_byte}
use Rattle.std.specs.List.{range_with_len}
use Rattle.std.proofs.lemmas.Bool.{lt-ltb, le-ltb, eq-eqb, ne_eqb, cases_order}
use Rattle.std.proofs.lemmas.List.Sums.{sum_by-cons, sum_by_more}
use Rattle.std.proofs.lemmas.List.FromFn.{sum_by-map-range_with_len_more}

-- a number up to w is below w or is w
at_most : (w j : ℕ) → cond (ltb j w) 1 0 + cond (eqb j w) 1 0 ≡ cond (ltb j (suc w)) 1 0
at_most w j =
    ⊎_elim
    (λ (e : j ≡ w). ones false true true (le-ltb j w (omega arith)) (eq-eqb j w e) (lt-ltb j (suc w) (omega arith)) refl)
    (λ (h : (j < w) ⊎ (w < j)).
    ⊎_elim
    (λ (lt : j < w). ones true false true (lt-ltb j w lt) (ne_eqb j w (λ e. absurd (omega arith))) (lt-ltb j (suc w) (omega arith)) refl)
    (λ (gt : w < j). ones false false false (le-ltb j w (omega arith)) (ne_eqb j w (λ e. absurd (omega arith))) (le-ltb j (suc w) (omega arith)) refl) h)
    (cases_order j w)
  where
    ones : (a b c : Bool) → ltb j w ≡ a → eqb j w ≡ b → ltb j (suc w) ≡ c → cond a 1 0 + cond b 1 0 ≡ cond c 1 0 → cond (ltb j w) 1 0 + cond (eqb j w) 1 0 ≡ cond (ltb j (suc w)) 1 0
    ones a b c p q r is = (λ i. cond (p i) 1 0 + cond (q i) 1 0) ∙ is ∙ (λ i. cond (sym r i) 1 0)

one_more : (w : ℕ) (xs : List ℕ) → count_by (λ j. ltb j w) xs + count_by (λ j. eqb j w) xs ≡ count_by (λ j. ltb j (suc w)) xs
one_more w [] = refl
one_more w (x ∷ xs) =
    let a = sum_by-cons (λ (j : ℕ). cond (ltb j w) 1 0) x xs in let b = sum_by-cons (λ (j : ℕ). cond (eqb j w) 1 0) x xs in
    let c = sum_by-cons (λ (j : ℕ). cond (ltb j (suc w)) 1 0) x xs in let d = one_more w xs in let e = at_most w x in omega arith

none_below : (xs : List ℕ) → count_by (λ j. ltb j 0) xs ≡ 0
none_below [] = refl
none_below (x ∷ xs) = let a = sum_by-cons (λ (j : ℕ). cond (ltb j 0) 1 0) x xs in let b = none_below xs in let c : cond {A = ℕ} (ltb x 0) 1 0 ≡ 0 = ap (λ (t : Bool). cond t 1 0) (le-ltb x 0 (omega arith)) in omega arith

-- the tasks that the numbers below w ran
below_all : (xs : List ℕ) (w : ℕ) → sum (map (λ i. count_by (λ j. eqb j i) xs) (range_with_len 0 w)) ≡ count_by (λ j. ltb j w) xs
below_all xs zero = sym (none_below xs)
below_all xs (suc w) =
    let f : ℕ → ℕ = λ i. count_by (λ j. eqb j i) xs in let s : suc w ≡ w + 1 = omega arith in
    ap (λ (n : ℕ). sum (map f (range_with_len 0 n))) s ∙ sum_by-map-range_with_len_more (λ (x : ℕ). x) f 0 w w (omega arith) ∙ ap (λ (n : ℕ). n + f w) (below_all xs w) ∙ one_more w xs

all_below : (w : ℕ) (xs : List ℕ) → All (λ j. j ≤ w) xs → count_by (λ j. ltb j (suc w)) xs ≡ length xs
all_below w [] all = refl
all_below w (x ∷ xs) all =
    let le : x ≤ w = all 0 0 (omega arith) in let a = sum_by-cons (λ (j : ℕ). cond (ltb j (suc w)) 1 0) x xs in
    let b : cond {A = ℕ} (ltb x (suc w)) 1 0 ≡ 1 = ap (λ (t : Bool). cond t 1 0) (lt-ltb x (suc w) (omega arith)) in
    let c = all_below w xs (λ k d lt. all (suc k) d (omega arith)) in omega arith

-- where each owner is at most w, the tasks of all numbers up to w are all tasks
pub counts_add_up : (w : ℕ) (xs : List ℕ) → All (λ j. j ≤ w) xs → sum (map (λ i. count_by (λ j. eqb j i) xs) (range_with_len 0 w)) + count_by (λ j. eqb j w) xs ≡ length xs
counts_add_up w xs all = ap (λ (n : ℕ). n + count_by (λ j. eqb j w) xs) (below_all xs w) ∙ one_more w xs ∙ all_below w xs all

byte_is : (b : Bool) → bool_byte b ≡ cond b 1 0
byte_is true = refl
byte_is false = refl

-- one owner more was looked at
pub count_more : (number task count more : ℕ) (owners : List ℕ) → task < length owners → count ≡ count_by (λ j. eqb j number) (take task owners) → more ≡ bool_byte (eqb (get_or owners task 0) number)
    → count + more ≡ count_by (λ j. eqb j number) (take (task + 1) owners)
count_more number task count more owners lt so_far is =
    (λ i. so_far i + is i) ∙ ap (λ (n : ℕ). count_by (λ (j : ℕ). eqb j number) (take task owners) + n) (byte_is (eqb (get_or owners task 0) number)) ∙ sym (sum_by_more (λ (j : ℕ). cond (eqb j number) 1 0) owners task 0 lt)

pub byte_most : (b : Bool) (n : ℕ) → n ≡ bool_byte b → n ≤ 1
byte_most true n e = let x : n ≡ 1 = e in omega arith
byte_most false n e = let x : n ≡ 0 = e in omega arith
