-- Squared differences, lane by lane and summed.
use Rattle.std.proofs.Common.{◌≡◌, ℕ, suc, ◌+◌, ◌-◌, ◌*◌, ◌%◌, ◌<◌, ◌≤◌, List, [], ◌∷◌, map, get_or, refl, sym, ap, ◌∙◌, subst, inl, inr, arith, Fits, w8, w32}
use Rattle.std.proofs.Math.Nat.{mod-eq_of_lt, mul-le-mul, add-mul, mul_comm}
use Rattle.std.proofs.lemmas.Bool.{cases_lt}
use Rattle.std.proofs.lemmas.Simd.{chunk-fits, below_from_Fits}
use lib.Lanes.{zip2, Each1, chunk}
use lib.IntN.{nat_abs}
use lib.Signed.{non_neg}
use lib.Dec.{T}
use mir.Syntax.{w16, cast, signed, unsigned, wrap_sub, wrap_mul}
use mir.Val.{of_z, to_z, SFits}
use mir.ValLaws.{to_z_pos, to_z-neg, to_z-Fits}
use borrow.Table.Row.{s_int}
use borrow.Rule.Simd.Lanes.{act1, act2, Asks1}
use Rattle.ann_defs.specs.Distance.{squared_gap}

-- a byte in 16 bits
abbrev pub wide : ℕ → ℕ
wide = act1 (cast unsigned signed w16) (s_int w8) (s_int w16)

-- the difference of two of those
abbrev pub gap : ℕ → ℕ → ℕ
gap = act2 wrap_sub (s_int w16) (s_int w16) (s_int w16)

-- that with its sign in 32 bits
abbrev pub widest : ℕ → ℕ
widest = act1 (cast signed signed w32) (s_int w16) (s_int w32)

abbrev pub square : ℕ → ℕ → ℕ
square = act2 wrap_mul (s_int w32) (s_int w32) (s_int w32)

-- the same number without a sign
abbrev pub plain : ℕ → ℕ
plain = act1 (cast signed unsigned w32) (s_int w32) (s_int w32)

gap_up : (a b : ℕ) → a < 256 → b ≤ a → gap (wide a) (wide b) ≡ a - b
gap_up a b h k = omega arith

gap_down : (a b : ℕ) → b < 256 → a < b → gap (wide a) (wide b) ≡ 65536 - (b - a)
gap_down a b h k = omega arith

widest_up : (d : ℕ) → d < 256 → widest d ≡ d
widest_up d h = ap (of_z w32) (to_z_pos w16 d (omega arith))

widest_down : (k : ℕ) → k < 256 → widest (65536 - suc k) ≡ 4294967296 - suc k
widest_down k h = ap (of_z w32) (to_z-neg w16 k (omega arith))

small_square : (d : ℕ) → d < 256 → d * d ≤ 65025
small_square d h = mul-le-mul {n₁ = d} {m₁ = d} {n₂ = 255} {m₂ = 255} (omega arith) (omega arith)

square_up : (d : ℕ) → d < 256 → square d d ≡ d * d
square_up d h = let s : d * d ≤ 65025 = small_square d h in mod-eq_of_lt {n = d * d} {m = 4294967296} (omega arith)

square_down : (d : ℕ) → d < 256 → square (4294967296 - d) (4294967296 - d) ≡ d * d
square_down d h =
    let e = 4294967296 - d in
    let s : d * d ≤ 65025 = small_square d h in
    let both : e + d ≡ 4294967296 = omega arith in
    let one : 4294967296 * e ≡ e * e + d * e = ap (λ x. x * e) (sym both) ∙ add-mul e d e in
    let two : 4294967296 * d ≡ e * d + d * d = ap (λ x. x * d) (sym both) ∙ add-mul e d d in
    let swap : d * e ≡ e * d = mul_comm d e in
    let square_is : e * e ≡ 4294967296 * (e - d) + d * d = omega arith in
    omega arith

plain_is : (n : ℕ) → n ≤ 65025 → plain n ≡ n
plain_is n h = ap nat_abs (to_z_pos w32 n (omega arith))

plain_asks : (n : ℕ) → n ≤ 65025 → Asks1 (cast signed unsigned w32) (s_int w32) n
plain_asks n h =
    let e = to_z_pos w32 n (omega arith) in
    (subst (λ z. T (non_neg z)) (sym e) tt, subst (λ z. Fits w32 (nat_abs z)) (sym e) (record { fits = omega arith }))

-- what a lane is squared to
abbrev pub squared : ℕ → ℕ → ℕ
squared a b = square (widest (gap (wide a) (wide b))) (widest (gap (wide a) (wide b)))

squared_is : (a b : ℕ) → a < 256 → b < 256 → squared a b ≡ squared_gap a b
squared_is a b h k =
    elim (cases_lt a b) as (λ _. squared a b ≡ squared_gap a b) [
      | inl less ↦
          let less' : a < b = less in
          let d : 65536 - (b - a) ≡ 65536 - suc (b - a - 1) = omega arith in
          let e : 4294967296 - suc (b - a - 1) ≡ 4294967296 - (b - a) = omega arith in
          let wide_is : widest (gap (wide a) (wide b)) ≡ 4294967296 - (b - a) = ap widest (gap_down a b k less' ∙ d) ∙ widest_down (b - a - 1) (omega arith) ∙ e in
          let same : b - a ≡ a - b + (b - a) = omega arith in
          ap (λ x. square x x) wide_is ∙ square_down (b - a) (omega arith) ∙ ap (λ x. x * x) same
      | inr more ↦
          let more' : b ≤ a = more in
          let wide_is : widest (gap (wide a) (wide b)) ≡ a - b = ap widest (gap_up a b h more') ∙ widest_up (a - b) (omega arith) in
          let same : a - b ≡ a - b + (b - a) = omega arith in
          ap (λ x. square x x) wide_is ∙ square_up (a - b) (omega arith) ∙ ap (λ x. x * x) same
    ]

gap_small : (a b : ℕ) → a < 256 → b < 256 → squared_gap a b ≤ 65025
gap_small a b h k = small_square (a - b + (b - a)) (omega arith)

gap_fits : (a b : ℕ) → SFits w32 (to_z w16 (gap (wide a) (wide b)))
gap_fits a b =
    let below : (a + (65536 - b)) % 65536 < 65536 = omega arith in
    let low = (to_z-Fits w16 (gap (wide a) (wide b)) (record { fits = below })).sfits in
    record { sfits = omega arith }

pub gaps_fit : (xs ys : List ℕ) → Each1 (Asks1 (cast signed signed w32) (s_int w16)) (zip2 gap (map wide xs) (map wide ys))
gaps_fit [] ys = tt
gaps_fit (x ∷ xs) [] = tt
gaps_fit (x ∷ xs) (y ∷ ys) = (gap_fits x y, gaps_fit xs ys)

abbrev pub gaps : List ℕ → List ℕ → List ℕ
gaps xs ys = map widest (zip2 gap (map wide xs) (map wide ys))

pub squares_fit : (xs ys : List ℕ) → Each1 (λ x. x < 256) xs → Each1 (λ x. x < 256) ys → Each1 (Asks1 (cast signed unsigned w32) (s_int w32)) (zip2 square (gaps xs ys) (gaps xs ys))
squares_fit [] ys h k = tt
squares_fit (x ∷ xs) [] h k = tt
squares_fit (x ∷ xs) (y ∷ ys) h k = (plain_asks (squared x y) (subst (λ n. n ≤ 65025) (sym (squared_is x y h.0 k.0)) (gap_small x y h.0 k.0)), squares_fit xs ys h.1 k.1)

pub squares_are : (xs ys : List ℕ) → Each1 (λ x. x < 256) xs → Each1 (λ x. x < 256) ys → map plain (zip2 square (gaps xs ys) (gaps xs ys)) ≡ zip2 squared_gap xs ys
squares_are [] ys h k = refl
squares_are (x ∷ xs) [] h k = refl
squares_are (x ∷ xs) (y ∷ ys) h k =
    let here = squared_is x y h.0 k.0 in
    let small : squared x y ≤ 65025 = subst (λ n. n ≤ 65025) (sym here) (gap_small x y h.0 k.0) in
    ap (λ n. n ∷ map plain (zip2 square (gaps xs ys) (gaps xs ys))) (plain_is (squared x y) small ∙ here) ∙ ap (λ ns. squared_gap x y ∷ ns) (squares_are xs ys h.1 k.1)

pub bytes_in : (i n : ℕ) (xs : List ℕ) → ((k : ℕ) → Fits w8 (get_or xs k 0)) → Each1 (λ x. x < 256) (chunk i n xs)
bytes_in i n xs h = below_from_Fits w8 (chunk i n xs) (chunk-fits w8 i n xs h)
