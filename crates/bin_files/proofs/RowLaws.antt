-- Rows cut from a list of bytes.
use Rattle.std.proofs.Common.{◌≡◌, ℕ, zero, suc, ◌+◌, ◌*◌, ◌<◌, ◌≤◌, List, [], ◌∷◌, ◌++◌, length, take, drop, get_or, refl, ap, ◌∙◌, arith}
use Rattle.std.proofs.lemmas.List.{drop-drop, length-take-le, length-drop, take-append-drop}
use Rattle.std.proofs.Math.Nat.{mul-le-mul_right}
use Rattle.ann_defs.specs.Distance.{dim_of}
use Rattle.bin_files.specs.Rows.{rows, cells}

pub length-rows : (n d : ℕ) (bytes : List ℕ) → length (rows n d bytes) ≡ n
length-rows zero d bytes = refl
length-rows (suc n) d bytes = ap suc (length-rows n d (drop d bytes))

pub dim_of-rows : (n d : ℕ) (bytes : List ℕ) → 1 ≤ n → d ≤ length bytes → dim_of (rows n d bytes) ≡ d
dim_of-rows zero d bytes some fits = absurd (omega arith)
dim_of-rows (suc n) d bytes some fits = length-take-le d bytes fits

pub get_or-rows : (n d : ℕ) (bytes : List ℕ) (i : ℕ) → i < n → get_or (rows n d bytes) i [] ≡ take d (drop (i * d) bytes)
get_or-rows zero d bytes i lt = absurd (omega arith)
get_or-rows (suc n) d bytes zero lt = let none : 0 ≡ 0 * d = omega arith in ap (λ k. take d (drop k bytes)) none
get_or-rows (suc n) d bytes (suc i) lt =
    get_or-rows n d (drop d bytes) i (omega arith) ∙ ap (take d) (drop-drop (i * d) d bytes) ∙ ap (λ k. take d (drop k bytes)) (omega arith)

-- a row lies within
pub row_below : (n d i : ℕ) → i < n → i * d + d ≤ n * d
row_below n d i lt = omega (arith, mul-le-mul_right {m = suc i} {n = n} d lt)

pub cells-rows : (n d : ℕ) (bytes : List ℕ) → length bytes ≡ n * d → cells (rows n d bytes) ≡ bytes
cells-rows zero d [] long = refl
cells-rows zero d (b ∷ bytes) long = absurd (omega arith)
cells-rows (suc n) d bytes long =
    ap (λ xs. take d bytes ++ xs) (cells-rows n d (drop d bytes) (omega (arith, length-drop d bytes))) ∙ take-append-drop d bytes
