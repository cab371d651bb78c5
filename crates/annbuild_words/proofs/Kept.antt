-- Settings are those of their own values, where what the command doesn't have is its default.
use Rattle.std.proofs.Common.{◌≡◌, ℕ, Bool, true, false, cond, min, List, Option, Some, None, refl, ap, sym, ◌∙◌}
use Rattle.ann_defs.specs.declared.kinds.Kind.{Kind}
use Rattle.command_options.specs.declared.form.Form.{Form}
use Rattle.command_options.specs.declared.verb.Verb.{Verb}
use Rattle.command_options.specs.declared.option_name.OptionName.{OptionName}
use Rattle.command_options.specs.declared.option_name.OptionName.TheVariants as options
use Rattle.command_options.specs.declared.value.Value.{Value}
use Rattle.command_options.specs.declared.value.Value.TheVariants.{Number, Fraction, KindIs, PoolIs, OrderIs, StartIs, ElementIs}
use Rattle.command_options.specs.Forms.{option_form, default_value}
use Rattle.annbuild_words.specs.ValueTexts.{value_or_default}
use Rattle.command_options.specs.Settings.{number_or}
use Rattle.command_options.specs.Settings.{settings_of, values_of, kept, number_or_rule, numerator, denominator, some_number, kind_of, pool_of, order_of, start_of, element_of}
use Rattle.command_options.specs.Shapes.{has_option}

-- the settings of values that agree
pub same_values : (u v : OptionName → Value) → ((o : OptionName) → u o ≡ v o) → settings_of u ≡ settings_of v
same_values u v h =
    rw (
      h options.Kind,
      h options.Workers,
      h options.Pool,
      h options.Seed,
      h options.Order,
      h options.Start,
      h options.Degree,
      h options.Beam,
      h options.Alpha,
      h options.Cap,
      h options.Passes,
      h options.Bits,
      h options.MaxLevel,
      h options.List,
      h options.Trees,
      h options.Leaf,
      h options.Rounds,
      h options.Floor,
      h options.Format,
      h options.Count,
      h options.Dim,
      h options.Queries,
      h options.Search,
      h options.K,
      h options.Callers,
      h options.Label,
      h options.Type,
    ) refl

-- a field of a value that is read again
again : {X : Type 0} (f : Value → X) (as_value : Value → Value) → ((v : Value) → f (as_value v) ≡ f v) → (b : Bool) (form : Form) (text : Option (List ℕ))
    → f (cond b (as_value (value_or_default form (cond b text None))) (default_value form)) ≡ f (value_or_default form (cond b text None))
again f as_value law true form text = law (value_or_default form text)
again f as_value law false form text = refl

number_again : (n : ℕ) (b : Bool) (form : Form) (text : Option (List ℕ)) → number_or n (cond b (Number (number_or n (value_or_default form (cond b text None)))) (default_value form)) ≡ number_or n (value_or_default form (cond b text None))
number_again n b form text = again (number_or n) (λ v. Number (number_or n v)) (λ v. refl) b form text

cap_again : (o : Option ℕ) → some_number (number_or_rule o) ≡ o
cap_again None = refl
cap_again (Some n) = refl

-- the settings of values whose fields agree
same_fields : (u v : OptionName → Value)
    → kind_of (u options.Kind) ≡ kind_of (v options.Kind)
    → number_or 0 (u options.Workers) ≡ number_or 0 (v options.Workers)
    → pool_of (u options.Pool) ≡ pool_of (v options.Pool)
    → number_or 0 (u options.Seed) ≡ number_or 0 (v options.Seed)
    → order_of (u options.Order) ≡ order_of (v options.Order)
    → start_of (u options.Start) ≡ start_of (v options.Start)
    → number_or 0 (u options.Degree) ≡ number_or 0 (v options.Degree)
    → number_or 0 (u options.Beam) ≡ number_or 0 (v options.Beam)
    → numerator (u options.Alpha) ≡ numerator (v options.Alpha)
    → denominator (u options.Alpha) ≡ denominator (v options.Alpha)
    → some_number (u options.Cap) ≡ some_number (v options.Cap)
    → number_or 0 (u options.Passes) ≡ number_or 0 (v options.Passes)
    → number_or 0 (u options.Bits) ≡ number_or 0 (v options.Bits)
    → number_or 0 (u options.MaxLevel) ≡ number_or 0 (v options.MaxLevel)
    → number_or 0 (u options.List) ≡ number_or 0 (v options.List)
    → number_or 0 (u options.Trees) ≡ number_or 0 (v options.Trees)
    → number_or 0 (u options.Leaf) ≡ number_or 0 (v options.Leaf)
    → number_or 0 (u options.Rounds) ≡ number_or 0 (v options.Rounds)
    → number_or 0 (u options.Floor) ≡ number_or 0 (v options.Floor)
    → number_or 0 (u options.Format) ≡ number_or 0 (v options.Format)
    → number_or 0 (u options.Count) ≡ number_or 0 (v options.Count)
    → number_or 0 (u options.Dim) ≡ number_or 0 (v options.Dim)
    → number_or 0 (u options.Queries) ≡ number_or 0 (v options.Queries)
    → number_or 0 (u options.Search) ≡ number_or 0 (v options.Search)
    → number_or (min 10 (number_or 0 (u options.Search))) (u options.K) ≡ number_or (min 10 (number_or 0 (v options.Search))) (v options.K)
    → number_or 0 (u options.Callers) ≡ number_or 0 (v options.Callers)
    → number_or 0 (u options.Label) ≡ number_or 0 (v options.Label)
    → element_of (u options.Type) ≡ element_of (v options.Type)
    → settings_of u ≡ settings_of v
same_fields u v e0 e1 e2 e3 e4 e5 e6 e7 e8 e9 e10 e11 e12 e13 e14 e15 e16 e17 e18 e19 e20 e21 e22 e23 e24 e25 e26 e27 = rw (e24, e0, e1, e2, e3, e4, e5, e6, e7, e8, e9, e10, e11, e12, e13, e14, e15, e16, e17, e18, e19, e20, e21, e22, e23, e25, e26, e27) refl

-- values that texts give to the options of a command are kept by their settings
pub kept_settings : (verb : Verb) (kind : Kind) (text : OptionName → Option (List ℕ)) (w : OptionName → Value)
    → ((o : OptionName) → w o ≡ value_or_default (option_form verb kind o) (cond (has_option verb kind o) (text o) None))
    → settings_of (kept verb kind (values_of (settings_of w))) ≡ settings_of w
kept_settings verb kind text w is =
    let b : OptionName → Bool = λ o. has_option verb kind o in
    let form : OptionName → Form = λ o. option_form verb kind o in
    let v : OptionName → Value = λ o. value_or_default (option_form verb kind o) (cond (has_option verb kind o) (text o) None) in
    let number : (o : OptionName) → number_or 0 (cond (b o) (Number (number_or 0 (v o))) (default_value (form o))) ≡ number_or 0 (v o) = λ o. number_again 0 (b o) (form o) (text o) in
    let whole : settings_of (kept verb kind (values_of (settings_of v))) ≡ settings_of v = same_fields (kept verb kind (values_of (settings_of v))) v
    (again kind_of (λ x. KindIs (kind_of x)) (λ x. refl) (b options.Kind) (form options.Kind) (text options.Kind))
    (number options.Workers)
    (again pool_of (λ x. PoolIs (pool_of x)) (λ x. refl) (b options.Pool) (form options.Pool) (text options.Pool))
    (number options.Seed)
    (again order_of (λ x. OrderIs (order_of x)) (λ x. refl) (b options.Order) (form options.Order) (text options.Order))
    (again start_of (λ x. StartIs (start_of x)) (λ x. refl) (b options.Start) (form options.Start) (text options.Start))
    (number options.Degree)
    (number options.Beam)
    (again numerator (λ x. Fraction (numerator x) (denominator x)) (λ x. refl) (b options.Alpha) (form options.Alpha) (text options.Alpha))
    (again denominator (λ x. Fraction (numerator x) (denominator x)) (λ x. refl) (b options.Alpha) (form options.Alpha) (text options.Alpha))
    (again some_number (λ x. number_or_rule (some_number x)) (λ x. cap_again (some_number x)) (b options.Cap) (form options.Cap) (text options.Cap))
    (number options.Passes)
    (number options.Bits)
    (number options.MaxLevel)
    (number options.List)
    (number options.Trees)
    (number options.Leaf)
    (number options.Rounds)
    (number options.Floor)
    (number options.Format)
    (number options.Count)
    (number options.Dim)
    (number options.Queries)
    (number options.Search)
    (ap (λ n. number_or (min 10 n) (cond (b options.K) (Number (number_or (min 10 (number_or 0 (v options.Search))) (v options.K))) (default_value (form options.K)))) (number options.Search)
    ∙ number_again (min 10 (number_or 0 (v options.Search))) (b options.K) (form options.K) (text options.K))
    (number options.Callers)
    (number options.Label)
    (again element_of (λ x. ElementIs (element_of x)) (λ x. refl) (b options.Type) (form options.Type) (text options.Type))
    in
    let same : settings_of w ≡ settings_of v = same_values w v is in
    ap (λ s. settings_of (kept verb kind (values_of s))) same ∙ whole ∙ sym same
