-- Values are read back from their texts.
use Rattle.std.proofs.Common.{◌≡◌, ℕ, ◌<◌, ◌^◌, true, cond, ◌&&◌, [], ◌∷◌, ◌++◌, length, Option, Some, None, codes, decimal, ltb, refl, ap, ap₂, IfSome, ◌∙◌, arith}
use Rattle.std.proofs.lemmas.Bool.{lt-ltb, and_from}
use Rattle.std.proofs.lemmas.List.{append_assoc}
use Rattle.std.proofs.lemmas.Fmt.{digits_decimal, decimal_is_IsNumeral}
use Rattle.std.proofs.lemmas.Str.Parse.{IsNumeralModel, numerals_by_value, tells_all_ascii_digits, digit_at}
use Rattle.std.specs.List.{before_first, after_first}
use Rattle.std.specs.Option.{option_map, unwrap_or}
use Rattle.std.specs.Str.{all_ascii_digits}
use Rattle.std.specs.Str.Parse.{IsNumeral, digits_value}
use Rattle.clap.proofs.CutLemmas.{Lacks, before_first-at, after_first-at}
use Rattle.ann_defs.specs.declared.kinds.Element.{Element}
use Rattle.ann_defs.specs.declared.kinds.Element.TheVariants.{U8, I8}
use Rattle.ann_defs.specs.declared.kinds.Kind.{Kind}
use Rattle.ann_defs.specs.declared.kinds.Kind.TheVariants.{Vamana, Hnsw, Nnd}
use Rattle.ann_defs.specs.declared.kinds.OrderKind.{OrderKind}
use Rattle.ann_defs.specs.declared.kinds.OrderKind.TheVariants.{File, Seeded}
use Rattle.ann_defs.specs.declared.kinds.StartKind.{StartKind}
use Rattle.ann_defs.specs.declared.kinds.StartKind.TheVariants.{First, Medoid}
use Rattle.ann_defs.specs.declared.kinds.Way.{Way}
use Rattle.ann_defs.specs.declared.kinds.Way.TheVariants.{Serial, Shares, Stealing}
use Rattle.command_options.specs.declared.form.Range.{Range}
use Rattle.command_options.specs.declared.form.Form.TheVariants.{OfNumber, OfFraction, OfKind, OfPool, OfOrder, OfStart, OfElement}
use Rattle.command_options.specs.declared.value.Value.TheVariants.{Number, Fraction, KindIs, PoolIs, OrderIs, StartIs, ElementIs}
use Rattle.annbuild_words.specs.Numbers.{number, is_number, is_slash, both, fraction}
use Rattle.command_options.specs.Forms.{default_value}
use Rattle.annbuild_words.specs.ValueTexts.{value_in, value_or_default}
use Rattle.command_options.specs.Names.{kind_name, pool_name, order_name, start_name, element_name}
use Rattle.command_options.specs.Settings.{number_or_rule}
use Rattle.annbuild_clap.specs.Canonical.{value_text}

own : IsNumeralModel (λ ds. all_ascii_digits ds ≡ true) (digits_value 10)
own = numerals_by_value _ tells_all_ascii_digits

is_number_decimal : (n : ℕ) → n < 2 ^ 64 → is_number (decimal n) ≡ true
is_number_decimal n h =
    let numeral : IsNumeral 10 (decimal n) = (decimal_is_IsNumeral n h).0 in
    let some : 0 < length (decimal n) = numeral.0 in
    let value : digits_value 10 (decimal n) ≡ n = (decimal_is_IsNumeral n h).1 in
    and_from (all_ascii_digits (decimal n) && ltb 0 (length (decimal n))) (ltb (digits_value 10 (decimal n)) (2 ^ 64))
    (and_from (all_ascii_digits (decimal n)) (ltb 0 (length (decimal n))) (digits_decimal own n h) (lt-ltb _ _ some)) (lt-ltb _ _ (rw value h))

pub number_back : (n : ℕ) → n < 2 ^ 64 → number (decimal n) ≡ Some n
unfolding number
number_back n h = ap (λ b. cond b (Some (digits_value 10 (decimal n))) None) (is_number_decimal n h) ∙ ap Some (decimal_is_IsNumeral n h).1

-- no digit is a `/`
no_slash : (n : ℕ) → n < 2 ^ 64 → Lacks 47 (decimal n)
no_slash n h i lt e =
    let numeral : IsNumeral 10 (decimal n) = (decimal_is_IsNumeral n h).0 in
    let digit = digit_at (decimal n) i numeral.1 lt in
    absurd (omega (arith, digit, e))

pub fraction_back : (num den : ℕ) → num < 2 ^ 64 → den < 2 ^ 64 → fraction (decimal num ++ codes "/" ++ decimal den) ≡ Some (num, den)
unfolding fraction
fraction_back num den h k =
    let e : decimal num ++ codes "/" ++ decimal den ≡ decimal num ++ 47 ∷ decimal den = append_assoc (decimal num) (47 ∷ []) (decimal den) in
    ap₂ (λ a b. both (number a) (number b)) (ap (before_first is_slash) e ∙ before_first-at 47 (decimal num) (decimal den) (no_slash num h))
    (ap (after_first is_slash) e ∙ after_first-at 47 (decimal num) (decimal den) (no_slash num h))
    ∙ ap₂ both (number_back num h) (number_back den k)

pub number_value : (default : Option ℕ) (range : Range) (n : ℕ) → n < 2 ^ 64 → value_or_default (OfNumber default range) (Some (decimal n)) ≡ Number n
unfolding value_in
number_value default range n h = ap (λ o. unwrap_or (option_map Number o) (default_value (OfNumber default range))) (number_back n h)

pub optional_value : (range : Range) (o : Option ℕ) → IfSome o (λ n. n < 2 ^ 64) → value_or_default (OfNumber None range) (value_text (number_or_rule o)) ≡ number_or_rule o
optional_value range None h = refl
optional_value range (Some n) h = number_value None range n h

pub fraction_value : (a b greatest num den : ℕ) → num < 2 ^ 64 → den < 2 ^ 64 → value_or_default (OfFraction a b greatest) (Some (decimal num ++ codes "/" ++ decimal den)) ≡ Fraction num den
unfolding value_in
fraction_value a b greatest num den h k = ap (λ o. unwrap_or (option_map (λ p. Fraction p.0 p.1) o) (Fraction a b)) (fraction_back num den h k)

pub kind_value : (default kind : Kind) (greatest : ℕ) → value_or_default (OfKind default greatest) (Some (kind_name kind)) ≡ KindIs kind
unfolding value_in
kind_value default Vamana greatest = refl
kind_value default Hnsw greatest = refl
kind_value default Nnd greatest = refl

pub pool_value : (default way : Way) → value_or_default (OfPool default) (Some (pool_name way)) ≡ PoolIs way
unfolding value_in
pool_value default Serial = refl
pool_value default Shares = refl
pool_value default Stealing = refl

pub order_value : (default kind : OrderKind) → value_or_default (OfOrder default) (Some (order_name kind)) ≡ OrderIs kind
unfolding value_in
order_value default File = refl
order_value default Seeded = refl

pub start_value : (default kind : StartKind) → value_or_default (OfStart default) (Some (start_name kind)) ≡ StartIs kind
unfolding value_in
start_value default First = refl
start_value default Medoid = refl

pub element_value : (default element : Element) → value_or_default (OfElement default) (Some (element_name element)) ≡ ElementIs element
unfolding value_in
element_value default U8 = refl
element_value default I8 = refl
