-- File names that are as many as a command has leave the other names empty.
use Rattle.std.proofs.Common.{◌≡◌, ℕ, ◌≤◌, List, [], ◌∷◌, length, drop, refl, ap, sym, ◌∙◌, arith}
use Rattle.annbuild_words.specs.Asked.{file_at, no_names}

spare_after : (files : List (List ℕ)) → length files ≤ 4
    → drop (length files) (file_at files 0 ∷ file_at files 1 ∷ file_at files 2 ∷ file_at files 3 ∷ []) ≡ drop (length files) no_names
spare_after [] h = refl
spare_after (a ∷ []) h = refl
spare_after (a ∷ b ∷ []) h = refl
spare_after (a ∷ b ∷ c ∷ []) h = refl
spare_after (a ∷ b ∷ c ∷ d ∷ []) h = refl
spare_after (a ∷ b ∷ c ∷ d ∷ e ∷ files) h = absurd (omega (arith, h))

pub spare : (files : List (List ℕ)) (n : ℕ) → length files ≡ n → n ≤ 4
    → drop n (file_at files 0 ∷ file_at files 1 ∷ file_at files 2 ∷ file_at files 3 ∷ []) ≡ drop n no_names
spare files n is h =
    let few : length files ≤ 4 = omega (arith, is, h) in
    ap (λ k. drop k (file_at files 0 ∷ file_at files 1 ∷ file_at files 2 ∷ file_at files 3 ∷ [])) (sym is) ∙ spare_after files few ∙ ap (λ k. drop k no_names) is
