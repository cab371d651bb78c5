-- Numbers from 1 on.
use Rattle.std.proofs.Common.{◌≡◌, ℕ, ◌+◌, ◌-◌, ◌≤◌, [], ◌∷◌, ◌++◌, map, ap, ◌∙◌, arith}
use Rattle.std.specs.List.{range_with_len, sum_by}
use Rattle.std.proofs.lemmas.List.{map-append}
use Rattle.std.proofs.lemmas.List.Sums.{sum_by-append, sum_by-cons}
use Rattle.batch_insert.proofs.Differing.{range_more}

pub ones_more : (k : ℕ) → 1 ≤ k → range_with_len 1 (k + 1 - 1) ≡ range_with_len 1 (k - 1) ++ k ∷ []
ones_more k some =
    let count : k + 1 - 1 ≡ k - 1 + 1 = omega arith in
    let last : 1 + (k - 1) ≡ k = omega arith in
    ap (range_with_len 1) count ∙ range_more 1 (k - 1) ∙ ap (λ j. range_with_len 1 (k - 1) ++ j ∷ []) last

pub map_ones_more : {X : Type 0} (f : ℕ → X) (k : ℕ) → 1 ≤ k → map f (range_with_len 1 (k + 1 - 1)) ≡ map f (range_with_len 1 (k - 1)) ++ f k ∷ []
map_ones_more f k some = ap (map f) (ones_more k some) ∙ map-append f (range_with_len 1 (k - 1)) (k ∷ [])

pub sum_ones_more : (f : ℕ → ℕ) (k : ℕ) → 1 ≤ k → sum_by f (range_with_len 1 (k + 1 - 1)) ≡ sum_by f (range_with_len 1 (k - 1)) + f k
sum_ones_more f k some =
    let one : sum_by f (k ∷ []) ≡ f k = sum_by-cons f k [] ∙ omega arith in
    ap (sum_by f) (ones_more k some) ∙ sum_by-append f (range_with_len 1 (k - 1)) (k ∷ []) ∙ ap (λ n. sum_by f (range_with_len 1 (k - 1)) + n) one

-- numbers from 1 to the top have all been gone through where the next is behind the top
pub ended : (top last next : ℕ) → last ≡ top → 1 ≤ next → (1 ≤ last + 1 → next ≤ last + 1) → last + 1 ≤ next → next - 1 ≡ top
ended top last next is low within behind = let high = within (omega arith) in omega (arith, is, low, high, behind)
