-- The digits of a number, the last one apart.
use Rattle.std.proofs.Common.{◌≡◌, ℕ, ◌+◌, ◌/◌, ◌%◌, ◌<◌, ◌≤◌, ◌^◌, List, [], ◌∷◌, ◌++◌, length, ap, sym, ◌∙◌, arith, decimal, length-append, append_assoc, lit<}
use Rattle.std.proofs.lemmas.Fmt.{decimal_digit, decimal_step, length-decimal-le}

pub one_digit : (n : ℕ) → n < 10 → length (decimal n) ≡ 1
one_digit n h = ap length (decimal_digit n h)

pub more_digits : (n : ℕ) → 10 ≤ n → n < 2 ^ 64 → length (decimal n) ≡ length (decimal (n / 10)) + 1
more_digits n h small = ap length (decimal_step n h small) ∙ length-append (decimal (n / 10)) ((48 + n % 10) ∷ [])

pub added_digits : (n : ℕ) (old mid : List ℕ) → 10 ≤ n → n < 2 ^ 64 → mid ≡ old ++ decimal (n / 10) → mid ++ (48 + n % 10) ∷ [] ≡ old ++ decimal n
added_digits n old mid h small e =
    ap (λ xs. xs ++ (48 + n % 10) ∷ []) e ∙ append_assoc old (decimal (n / 10)) ((48 + n % 10) ∷ []) ∙ ap (λ xs. old ++ xs) (sym (decimal_step n h small))

pub few_digits : (n : ℕ) → n < 2 ^ 64 → length (decimal n) ≤ 20
few_digits n small = length-decimal-le 20 n (lit< tt) (omega (arith, small)) small

pub few_digits_32 : (n : ℕ) → n < 2 ^ 32 → length (decimal n) ≤ 10
few_digits_32 n small = length-decimal-le 10 n (lit< tt) (omega (arith, small)) (omega (arith, small))
