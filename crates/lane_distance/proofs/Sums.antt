-- Sums of squared differences over parts of two points.
use Rattle.std.proofs.Common.{◌≡◌, ℕ, zero, suc, ◌+◌, ◌-◌, ◌*◌, ◌<◌, ◌≤◌, List, [], ◌∷◌, take, drop, replicate, length, get_or, refl, sym, ap, ◌∙◌, arith, Fits, w8}
use Rattle.std.proofs.Math.Nat.{mul-le-mul, add_assoc}
use Rattle.std.proofs.lemmas.List.{drop-drop}
use Rattle.std.proofs.lemmas.List.Sums.{sum_by-cons}
use Rattle.std.specs.List.{zip}
use lib.Lanes.{zip2, chunk, sum_l}
use Rattle.ann_defs.specs.Distance.{squared_gap, dist_of}

dist-cons : (x y : ℕ) (xs ys : List ℕ) → dist_of (x ∷ xs) (y ∷ ys) ≡ squared_gap x y + dist_of xs ys
dist-cons x y xs ys = sum_by-cons (λ (p : ℕ × ℕ). squared_gap p.0 p.1) (x, y) (zip xs ys)

dist-none : (xs : List ℕ) → dist_of xs [] ≡ 0
dist-none [] = refl
dist-none (x ∷ xs) = refl

pub sum-zeros : (n : ℕ) → sum_l (replicate n 0) ≡ 0
sum-zeros zero = refl
sum-zeros (suc n) = let e = sum-zeros n in omega arith

-- the first n apart from the rest
dist_split : (n : ℕ) (xs ys : List ℕ) → sum_l (zip2 squared_gap (take n xs) (take n ys)) + dist_of (drop n xs) (drop n ys) ≡ dist_of xs ys
dist_split zero xs ys = omega arith
dist_split (suc n) [] ys = refl
dist_split (suc n) (x ∷ xs) [] = let e = dist-none (drop n xs) in omega arith
dist_split (suc n) (x ∷ xs) (y ∷ ys) = add_assoc (squared_gap x y) _ _ ∙ ap (λ m. squared_gap x y + m) (dist_split n xs ys) ∙ sym (dist-cons x y xs ys)

-- the n from a place on, and the rest
pub dist_more : (at n : ℕ) (xs ys : List ℕ) → sum_l (zip2 squared_gap (chunk at n xs) (chunk at n ys)) + dist_of (drop (at + n) xs) (drop (at + n) ys) ≡ dist_of (drop at xs) (drop at ys)
dist_more at n xs ys =
    ap (λ zs. sum_l (zip2 squared_gap (chunk at n xs) (chunk at n ys)) + dist_of zs (drop (at + n) ys)) (sym (drop-drop n at xs))
    ∙ ap (λ zs. sum_l (zip2 squared_gap (chunk at n xs) (chunk at n ys)) + dist_of (drop n (drop at xs)) zs) (sym (drop-drop n at ys))
    ∙ dist_split n (drop at xs) (drop at ys)

-- two points of bytes
pub dist_small : (xs ys : List ℕ) → ((k : ℕ) → Fits w8 (get_or xs k 0)) → ((k : ℕ) → Fits w8 (get_or ys k 0)) → dist_of xs ys ≤ 65025 * length xs
dist_small [] ys f g = omega arith
dist_small (x ∷ xs) [] f g = omega arith
dist_small (x ∷ xs) (y ∷ ys) f g =
    let a : x < 256 = (f 0).fits in
    let b : y < 256 = (g 0).fits in
    let one : squared_gap x y ≤ 255 * 255 = mul-le-mul {n₁ = x - y + (y - x)} {m₁ = x - y + (y - x)} {n₂ = 255} {m₂ = 255} (omega arith) (omega arith) in
    let rest = dist_small xs ys (λ k. f (suc k)) (λ k. g (suc k)) in
    let e = dist-cons x y xs ys in
    omega arith

-- from a place on
pub rest_small : (at : ℕ) (xs ys : List ℕ) → ((k : ℕ) → Fits w8 (get_or xs k 0)) → ((k : ℕ) → Fits w8 (get_or ys k 0)) → dist_of (drop at xs) (drop at ys) ≤ 65025 * length xs
rest_small at xs ys f g =
    let all = dist_small xs ys f g in
    let split = dist_split at xs ys in
    omega arith
