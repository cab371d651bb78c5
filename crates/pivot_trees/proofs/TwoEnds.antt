-- A list that is written from both ends: what passes a test from the front, the others from the back.
use Rattle.std.proofs.Common.{◌≡◌, ℕ, ◌+◌, ◌-◌, ◌<◌, ◌≤◌, Bool, true, false, cond, not, List, [], ◌∷◌, ◌++◌, take, drop, set, reverse, length, get_or, sym, ap, ◌∙◌, inl, inr, arith}
use Rattle.std.specs.List.{filter}
use Rattle.std.proofs.lemmas.Bool.{cases_lt}
use Rattle.std.proofs.lemmas.List.{length-set, take-set-le, take_more_set, set-set, drop-set-lt, drop-set, reverse-append, append-nil}
use Rattle.std.proofs.lemmas.List.Elements.{filter_more}

module _ (test : ℕ → Bool) (ids out : List ℕ) (i left right : ℕ) (lt : i < length ids) (within : right ≤ length out) (free : left < right) where
  abbrev x : ℕ
  x = get_or ids i 0

  abbrev other : ℕ → Bool
  other id = not (test id)

  -- written at both ends
  abbrev written : List ℕ
  written = set (set out left x) (right - 1) x

  more : test x ≡ true → filter test (take (i + 1) ids) ≡ filter test (take i ids) ++ x ∷ []
  more is = filter_more test ids i 0 lt ∙ ap (λ b. filter test (take i ids) ++ cond b (x ∷ []) []) is

  same : test x ≡ false → filter test (take (i + 1) ids) ≡ filter test (take i ids)
  same is = filter_more test ids i 0 lt ∙ ap (λ b. filter test (take i ids) ++ cond b (x ∷ []) []) is ∙ append-nil (filter test (take i ids))

  other_more : test x ≡ false → filter other (take (i + 1) ids) ≡ filter other (take i ids) ++ x ∷ []
  other_more is = filter_more other ids i 0 lt ∙ ap (λ b. filter other (take i ids) ++ cond (not b) (x ∷ []) []) is

  other_same : test x ≡ true → filter other (take (i + 1) ids) ≡ filter other (take i ids)
  other_same is = filter_more other ids i 0 lt ∙ ap (λ b. filter other (take i ids) ++ cond (not b) (x ∷ []) []) is ∙ append-nil (filter other (take i ids))

  pub front_more : test x ≡ true → take left out ≡ filter test (take i ids) → take (left + 1) written ≡ filter test (take (i + 1) ids)
  front_more is before =
      let once : take (left + 1) (set out left x) ≡ take left out ++ x ∷ [] = take_more_set out left x (omega arith) in
      let both : take (left + 1) written ≡ take (left + 1) (set out left x) =
      elim (cases_lt left (right - 1)) as (λ _. take (left + 1) written ≡ take (left + 1) (set out left x)) [
        | inl less ↦ take-set-le (left + 1) (set out left x) (right - 1) x (omega (arith, less))
        | inr here ↦ let last : right - 1 ≡ left = omega (arith, here, free) in ap (λ k. take (left + 1) (set (set out left x) k x)) last ∙ ap (take (left + 1)) (set-set out left x x)
      ] in
      both ∙ once ∙ ap (λ (xs : List ℕ). xs ++ x ∷ []) before ∙ sym (more is)

  pub front_stays : test x ≡ false → take left out ≡ filter test (take i ids) → take left written ≡ filter test (take (i + 1) ids)
  front_stays is before =
      take-set-le left (set out left x) (right - 1) x (omega (arith, free)) ∙ take-set-le left out left x (omega arith) ∙ before ∙ sym (same is)

  pub back_stays : test x ≡ true → drop right out ≡ reverse (filter other (take i ids)) → drop right written ≡ reverse (filter other (take (i + 1) ids))
  back_stays is before =
      drop-set-lt right (set out left x) (right - 1) x (omega (arith, free)) ∙ drop-set-lt right out left x free ∙ before ∙ ap (λ (xs : List ℕ). reverse xs) (sym (other_same is))

  pub back_more : test x ≡ false → drop right out ≡ reverse (filter other (take i ids)) → drop (right - 1) written ≡ reverse (filter other (take (i + 1) ids))
  back_more is before =
      let long = length-set out left x in
      let one : right - 1 + 1 ≡ right = omega (arith, free) in
      drop-set (set out left x) (right - 1) x (omega (arith, long, within, free))
      ∙ ap (λ k. x ∷ drop k (set out left x)) one
      ∙ ap (λ (xs : List ℕ). x ∷ xs) (drop-set-lt right out left x free ∙ before)
      ∙ sym (ap (λ (xs : List ℕ). reverse xs) (other_more is) ∙ reverse-append (filter other (take i ids)) (x ∷ []))
