-- How often a number stands in a list, and the numbers of a range.
use Rattle.std.proofs.Common.{◌≡◌, ℕ, zero, suc, ◌+◌, ◌<◌, ◌≤◌, Bool, true, false, cond, List, [], ◌∷◌, refl, sym, ap, ◌∙◌, subst, inl, inr, arith}
use Rattle.std.specs.Prelude.{◌==◌, ◌⊎◌}
use Rattle.std.specs.List.{count_by, range_with_len}
use Rattle.std.proofs.lemmas.Bool.{eqb-true, eqb-false, eq-eqb, ne_eqb}
use Rattle.std.proofs.lemmas.List.Sums.{sum_by-cons}
use Rattle.ann_defs.specs.Ordered.{Has}
use Rattle.ann_defs.proofs.Members.{Once}

-- how often z stands in a list
abbrev pub count : ℕ → List ℕ → ℕ
count z xs = count_by (λ x. x == z) xs

count_cons : (z x : ℕ) (xs : List ℕ) → count z (x ∷ xs) ≡ cond (x == z) 1 0 + count z xs
count_cons z x xs = sum_by-cons (λ x. cond (x == z) 1 0) x xs

count_yes : (z x : ℕ) (xs : List ℕ) → x ≡ z → count z (x ∷ xs) ≡ 1 + count z xs
count_yes z x xs e = count_cons z x xs ∙ ap (λ (b : Bool). cond b 1 0 + count z xs) (eq-eqb x z e)

count_no : (z x : ℕ) (xs : List ℕ) → (x ≡ z → ⊥) → count z (x ∷ xs) ≡ 0 + count z xs
count_no z x xs n = count_cons z x xs ∙ ap (λ (b : Bool). cond b 1 0 + count z xs) (ne_eqb x z n)

pub count_none : (z : ℕ) (xs : List ℕ) → (Has xs z → ⊥) → count z xs ≡ 0
count_none z [] n = refl
count_none z (x ∷ xs) n =
    let rest = count_none z xs (λ m. n (inr m)) in
    let here = count_no z x xs (λ e. n (inl e)) in
    omega (arith, rest, here)

pub count_has : (z : ℕ) (xs : List ℕ) → Has xs z → 1 ≤ count z xs
count_has z [] h = absurd h
count_has z (x ∷ xs) h =
    elim h as (λ _. 1 ≤ count z (x ∷ xs)) [
      | inl e ↦ let here = count_yes z x xs e in omega (arith, here)
      | inr m ↦ let rest = count_has z xs m in let here = count_cons z x xs in omega (arith, rest, here)
    ]

pub count_once : (z : ℕ) (xs : List ℕ) → Once xs → Has xs z → count z xs ≡ 1
count_once z [] o h = absurd h
count_once z (x ∷ xs) o h =
    elim h as (λ _. count z (x ∷ xs) ≡ 1) [
      | inl e ↦
          let none = count_none z xs (λ m. o.0 (subst (λ (y : ℕ). Has xs y) (sym e) m)) in
          let here = count_yes z x xs e in
          omega (arith, none, here)
      | inr m ↦
          let rest = count_once z xs o.1 m in
          let here = count_no z x xs (λ e. o.0 (subst (λ (y : ℕ). Has xs y) (sym e) m)) in
          omega (arith, rest, here)
    ]

pub count_most : (z : ℕ) (xs : List ℕ) → Once xs → count z xs ≤ 1
count_most z [] o = omega arith
count_most z (x ∷ xs) o =
    elim (x == z) as (λ b. x == z ≡ b → count z (x ∷ xs) ≤ 1) [
      | true ↦ λ e. let once = count_once z (x ∷ xs) o (inl (eqb-true x z e)) in omega (arith, once)
      | false ↦ λ e. let rest = count_most z xs o.1 in let here = count_no z x xs (eqb-false x z e) in omega (arith, rest, here)
    ] refl

pub once_counted : (xs : List ℕ) → ((z : ℕ) → count z xs ≤ 1) → Once xs
once_counted [] h = tt
once_counted (x ∷ xs) h = (
  λ m. let two = count_has x xs m in let here = count_yes x x xs refl in let most = h x in absurd (omega (arith, two, here, most)),
  once_counted xs (λ z. let here = count_cons z x xs in let most = h z in omega (arith, here, most)),
)

pub range_has : (a n z : ℕ) → Has (range_with_len a n) z → (a ≤ z) × (z < a + n)
range_has a zero z h = absurd h
range_has a (suc n) z h =
    elim h as (λ _. (a ≤ z) × (z < a + suc n)) [
      | inl e ↦ (omega arith, omega arith)
      | inr m ↦ let rest = range_has (a + 1) n z m in (omega (arith, rest.0), omega (arith, rest.1))
    ]

pub has_range : (a n z : ℕ) → a ≤ z → z < a + n → Has (range_with_len a n) z
has_range a zero z h k = absurd (omega arith)
has_range a (suc n) z h k =
    elim (a == z) as (λ b. a == z ≡ b → (a ≡ z) ⊎ Has (range_with_len (a + 1) n) z) [
      | true ↦ λ e. inl (eqb-true a z e)
      | false ↦ λ e. let apart = eqb-false a z e in inr (has_range (a + 1) n z (omega (arith, apart)) (omega arith))
    ] refl

pub range_once : (a n : ℕ) → Once (range_with_len a n)
range_once a zero = tt
range_once a (suc n) = (λ m. let rest = range_has (a + 1) n a m in absurd (omega (arith, rest.0)), range_once (a + 1) n)
