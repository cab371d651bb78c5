-- What `parse` answers, as the number that a word writes.
use Rattle.std.proofs.Common.{◌≡◌, ◌≢◌, ℕ, ◌+◌, ◌<◌, ◌≤◌, ◌^◌, Bor, sym, subst, ◌∙◌, lit<, Bool, true, false, cond, ◌&&◌, List, [], ◌∷◌, length, get_or, Option, Some, None, Result, Ok, Err, ltb, refl, ap, arith}
use Rattle.std.proofs.lemmas.Str.Parse.{IsNumeralModel, numerals_by_value, tells_all_ascii_digits, parse_plain}
use Rattle.std.proofs.lemmas.Bool.{ltb-true, lt-ltb, and_from, false≢true}
use Rattle.std.specs.Bool.{Decides}
use Rattle.std.specs.Result.{OkIff, result_ok}
use Rattle.std.specs.Str.{all_ascii_digits}
use Rattle.std.specs.Str.Parse.{ParsesUnsigned, digits_value}
use Rattle.std.proofs.lemmas.List.{drop_all}
use Rattle.std.proofs.lemmas.Str.Pattern.{IsSplitOnceResult, split_once_first}
use Rattle.std.specs.List.{before_first, after_first, position_or_len}
use Rattle.std.specs.Option.{MatchOption}
use Rattle.annbuild_words.specs.Numbers.{number, is_number, is_slash, both, fraction}

own : IsNumeralModel (λ ds. all_ascii_digits ds ≡ true) (digits_value 10)
own = numerals_by_value _ tells_all_ascii_digits

no_such : ◌≡◌ {A = ℕ} 0 43 → ⊥
no_such e = omega arith

-- a sign is no digit
pub number_after_plus : (bs : List ℕ) → get_or bs 0 0 ≡ 43 → number bs ≡ None
unfolding number
number_after_plus [] e = absurd (no_such e)
number_after_plus (b ∷ bs) e = rw e refl

three_tests : (a b c : Bool) → (a && b && c) ≡ true → (a ≡ true) × (b ≡ true) × (c ≡ true)
three_tests true true true h = (refl, refl, refl)
three_tests true true false h = absurd (false≢true h)
three_tests true false c h = absurd (false≢true h)
three_tests false b c h = absurd (false≢true h)

number_decides : (bs : List ℕ) → Decides (is_number bs) ((all_ascii_digits bs ≡ true) × (0 < length bs) × (digits_value 10 bs < 2 ^ 64))
number_decides bs = (
  λ e. let t = three_tests (all_ascii_digits bs) (ltb 0 (length bs)) (ltb (digits_value 10 bs) (2 ^ 64)) e in (t.0, ltb-true _ _ t.1, ltb-true _ _ t.2),
  λ h. and_from (all_ascii_digits bs && ltb 0 (length bs)) (ltb (digits_value 10 bs) (2 ^ 64)) (and_from (all_ascii_digits bs) (ltb 0 (length bs)) h.0 (lt-ltb _ _ h.1)) (lt-ltb _ _ h.2),
)

by_test : {E : Type 0} {P : Type 0} (b : Bool) (v : ℕ) (r : Result ℕ E) → Decides b P → OkIff r P v → result_ok r ≡ cond b (Some v) None
by_test true v (Ok x) d h = ap Some h.1
by_test false v (Ok x) d h = absurd (false≢true (d.1 h.0))
by_test true v (Err e) d h = absurd (h (d.0 refl))
by_test false v (Err e) d h = refl

pub number_read : {E : Type 0} (bs : List ℕ) (r : Result ℕ E) → get_or bs 0 0 ≢ 43 → ParsesUnsigned 64 10 bs r → result_ok r ≡ number bs
unfolding number
number_read bs r h p = by_test (is_number bs) (digits_value 10 bs) r (number_decides bs) (parse_plain own 64 bs r p h)

both_none_right : (a : Option ℕ) → both a None ≡ None
both_none_right None = refl
both_none_right (Some n) = refl

number_of_none : number [] ≡ None
unfolding number
number_of_none = refl

-- without a `/` nothing stands after it
pub no_fraction : (bs : List ℕ) (r : Option (Bor (List ℕ) × Bor (List ℕ))) → r ≡ None → IsSplitOnceResult 47 bs r → None ≡ fraction bs
unfolding fraction
no_fraction bs r is h =
    let P : Option (Bor (List ℕ) × Bor (List ℕ)) → Type 0 = λ o. MatchOption o (position_or_len is_slash bs ≡ length bs)
    (λ x. (position_or_len is_slash bs < length bs) × (x.0.now ≡ before_first is_slash bs) × (x.1.now ≡ after_first is_slash bs)) in
    let whole : position_or_len is_slash bs ≡ length bs = subst P is (split_once_first 47 bs r h (lit< tt)) in
    let past : length bs ≤ position_or_len is_slash bs + 1 = omega (arith, whole) in
    let after : after_first is_slash bs ≡ [] = drop_all (position_or_len is_slash bs + 1) bs past in
    let none : number (after_first is_slash bs) ≡ None = ap number after ∙ number_of_none in
    sym (ap (λ v. both (number (before_first is_slash bs)) v) none ∙ both_none_right (number (before_first is_slash bs)))
