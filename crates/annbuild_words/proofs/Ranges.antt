-- Settings that no check finds out of range are in range.
use Rattle.std.proofs.Common.{◌≡◌, ℕ, zero, suc, ◌<◌, ◌≤◌, Bool, true, false, cond, ◌&&◌, leb, min, List, [], ◌∷◌, length, get_or, Option, Some, None, refl, ap, sym, ◌∙◌, arith, subst, lit<, IfSome}
use Rattle.std.proofs.lemmas.Bool.{leb-true}
use Rattle.std.specs.List.{slice_get, filter_map, cons_option}
use Rattle.std.specs.Option.{option_or, unwrap_or, option_map}
use Rattle.ann_defs.specs.declared.kinds.Kind.{Kind}
use Rattle.ann_defs.specs.declared.kinds.Kind.TheVariants.{Vamana, Hnsw, Nnd}
use Rattle.ann_defs.specs.declared.limits.TheConstants.{MAX_BEAM, MAX_CALLERS, MAX_DEGREE, MAX_DIM, MAX_POINTS, MAX_WORKERS}
use Rattle.command_options.specs.declared.setting_name.SettingName.{SettingName}
use Rattle.command_options.specs.declared.setting_name.SettingName.TheVariants as settings
use Rattle.command_options.specs.declared.verb.Verb.{Verb}
use Rattle.command_options.specs.declared.option_name.OptionName.{OptionName}
use Rattle.command_options.specs.declared.option_name.OptionName.TheVariants as options
use Rattle.command_options.specs.declared.form.Form.{Form}
use Rattle.command_options.specs.declared.form.Form.TheVariants.{OfNumber, OfFraction, OfKind}
use Rattle.command_options.specs.declared.form.Range.TheVariants.{Within, ToSearch}
use Rattle.annbuild_words.specs.declared.range.OutOfRange.{OutOfRange}
use Rattle.command_options.specs.declared.value.Value.{Value}
use Rattle.command_options.specs.declared.value.Value.TheVariants.{ByRule, Number, Fraction, KindIs, PoolIs, OrderIs, StartIs, ElementIs}
use Rattle.annbuild_words.specs.Asked.{kind_said}
use Rattle.command_options.specs.Forms.{greatest_degree, form_of_k}
use Rattle.command_options.specs.Names.{kind_name, first_named}
use Rattle.annbuild_words.specs.ValueTexts.{value_in, value_or_default}
use Rattle.annbuild_words.specs.Numbers.{number, fraction}
use Rattle.command_options.specs.Options.{option_name, every_option}
use Rattle.command_options.specs.Settings.{number_or, kind_code}
use Rattle.annbuild_words.specs.Rules.{setting, given_text, outside, outside_form, outside_option, first_outside}
use Rattle.command_options.specs.Settings.{settings_of, values_of, kept, kind_of, numerator, denominator, some_number, IsInRange}
use Rattle.command_options.specs.Shapes.{shape_kind, is_exact, is_live}
use Rattle.annbuild_words.specs.Words.{Item, values_for}
use Rattle.annbuild_words.proofs.Kept.{kept_settings}

both_none : (o : Option OutOfRange) (rest : List OutOfRange) → None ≡ slice_get (cons_option o rest) 0 → (o ≡ None) × (None ≡ slice_get rest 0)
both_none None rest h = (refl, h)
both_none (Some x) rest h = cc

none_at : (f : OptionName → Option OutOfRange) (xs : List OptionName) → None ≡ slice_get (filter_map f xs) 0 → (k : ℕ) (d : OptionName) → k < length xs → f (get_or xs k d) ≡ None
none_at f [] h k d l = absurd (omega arith)
none_at f (x ∷ xs) h zero d l = (both_none (f x) (filter_map f xs) h).0
none_at f (x ∷ xs) h (suc k) d l = none_at f xs (both_none (f x) (filter_map f xs) h).1 k d (omega arith)

chosen : (b : Bool) (x : OutOfRange) → cond b None (Some x) ≡ None → b ≡ true
chosen true x h = refl
chosen false x h = cc

two_tests : (a b : Bool) → (a && b) ≡ true → (a ≡ true) × (b ≡ true)
two_tests true b h = (refl, h)
two_tests false b h = cc

outside_none : (name : SettingName) (value least greatest : ℕ) → outside name value least greatest ≡ None → (least ≤ value) × (value ≤ greatest)
outside_none name value least greatest h =
    let t = two_tests (leb least value) (leb value greatest) (chosen (leb least value && leb value greatest) _ h) in (leb-true _ _ t.0, leb-true _ _ t.1)

-- a value that is written, or the default, is of one kind
unwrapped : {A : Type 0} (value : A → Value) (o : Option A) (default : A) → (a : A) × (unwrap_or (option_map value o) (value default) ≡ value a)
unwrapped value None default = (default, refl)
unwrapped value (Some a) default = (a, refl)

is_number : (name : SettingName) (d least greatest : ℕ) (o : Option (List ℕ)) → (n : ℕ) × (value_or_default (OfNumber (Some d) (Within name least greatest)) o ≡ Number n)
unfolding value_in
is_number name d least greatest None = (d, refl)
is_number name d least greatest (Some text) = unwrapped Number (number text) d

in_bounds : (name : SettingName) (d least greatest search : ℕ) (o : Option (List ℕ)) → outside_form (OfNumber (Some d) (Within name least greatest)) (value_or_default (OfNumber (Some d) (Within name least greatest)) o) search ≡ None
    → (least ≤ number_or 0 (value_or_default (OfNumber (Some d) (Within name least greatest)) o)) × (number_or 0 (value_or_default (OfNumber (Some d) (Within name least greatest)) o) ≤ greatest)
in_bounds name d least greatest search o h =
    let n = is_number name d least greatest o in
    let P : Value → Type 0 = λ v. outside_form (OfNumber (Some d) (Within name least greatest)) v search ≡ None → (least ≤ number_or 0 v) × (number_or 0 v ≤ greatest) in
    let here : P (Number n.0) = λ e. outside_none name n.0 least greatest e in
    subst P (sym n.1) here h

both_absent : (o p : Option OutOfRange) → option_or o p ≡ None → (o ≡ None) × (p ≡ None)
both_absent None p h = (refl, h)
both_absent (Some x) p h = cc

is_fraction : (num den greatest : ℕ) (o : Option (List ℕ)) → (p : ℕ × ℕ) × (value_or_default (OfFraction num den greatest) o ≡ Fraction p.0 p.1)
unfolding value_in
is_fraction num den greatest None = ((num, den), refl)
is_fraction num den greatest (Some text) = unwrapped (λ p. Fraction p.0 p.1) (fraction text) (num, den)

is_kind : (default : Kind) (greatest : ℕ) (o : Option (List ℕ)) → (kind : Kind) × (value_or_default (OfKind default greatest) o ≡ KindIs kind)
unfolding value_in
is_kind default greatest None = (default, refl)
is_kind default greatest (Some text) = unwrapped KindIs (first_named kind_name (Vamana ∷ Hnsw ∷ Nnd ∷ []) text) default

record IsAlphaInRange (v : Value) (greatest : ℕ) : Type 0 where
  some_den : 1 ≤ denominator v
  ordered : denominator v ≤ numerator v
  num : numerator v ≤ greatest

alpha_bounds : (num den greatest search : ℕ) (o : Option (List ℕ)) → outside_form (OfFraction num den greatest) (value_or_default (OfFraction num den greatest) o) search ≡ None
    → IsAlphaInRange (value_or_default (OfFraction num den greatest) o) greatest
alpha_bounds num den greatest search o h =
    let n = is_fraction num den greatest o in
    let P : Value → Type 0 = λ v. outside_form (OfFraction num den greatest) v search ≡ None → IsAlphaInRange v greatest in
    let here : P (Fraction n.0.0 n.0.1) = λ e.
    let parts = both_absent (outside settings.AlphaDen n.0.1 1 greatest) (outside settings.AlphaNum n.0.0 n.0.1 greatest) e in
    let low = outside_none settings.AlphaDen n.0.1 1 greatest parts.0 in
    let high = outside_none settings.AlphaNum n.0.0 n.0.1 greatest parts.1 in
    record { some_den = low.0; ordered = high.0; num = high.1 } in
    subst P (sym n.1) here h

cap_bounds : (name : SettingName) (least greatest search : ℕ) (v : Value) → outside_form (OfNumber None (Within name least greatest)) v search ≡ None → IfSome (some_number v) (λ cap. (least ≤ cap) × (cap ≤ greatest))
cap_bounds name least greatest search (Number n) h = outside_none name n least greatest h
cap_bounds name least greatest search ByRule h = tt
cap_bounds name least greatest search (Fraction n d) h = tt
cap_bounds name least greatest search (KindIs kind) h = tt
cap_bounds name least greatest search (ElementIs element) h = tt
cap_bounds name least greatest search (PoolIs kind) h = tt
cap_bounds name least greatest search (OrderIs kind) h = tt
cap_bounds name least greatest search (StartIs kind) h = tt

least_of_ten : (search : ℕ) → 1 ≤ search → (1 ≤ min 10 search) × (min 10 search ≤ search)
least_of_ten search h = (omega arith, omega arith)

k_bounds : (name : SettingName) (search : ℕ) (v : Value) → 1 ≤ search → outside_form (OfNumber None (ToSearch name 1)) v search ≡ None → (1 ≤ number_or (min 10 search) v) × (number_or (min 10 search) v ≤ search)
k_bounds name search (Number n) s h = outside_none name n 1 search h
k_bounds name search ByRule s h = least_of_ten search s
k_bounds name search (Fraction n d) s h = least_of_ten search s
k_bounds name search (KindIs kind) s h = least_of_ten search s
k_bounds name search (ElementIs element) s h = least_of_ten search s
k_bounds name search (PoolIs kind) s h = least_of_ten search s
k_bounds name search (OrderIs kind) s h = least_of_ten search s
k_bounds name search (StartIs kind) s h = least_of_ten search s

-- the number of answers, with a search list and without
all_k_bounds : (exact : Bool) (search : ℕ) (o : Option (List ℕ)) → 1 ≤ search → outside_form (form_of_k exact) (value_or_default (form_of_k exact) o) search ≡ None
    → (1 ≤ number_or (min 10 search) (value_or_default (form_of_k exact) o)) × (number_or (min 10 search) (value_or_default (form_of_k exact) o) ≤ cond exact MAX_BEAM search)
all_k_bounds false search o s h = k_bounds settings.K search (value_or_default (OfNumber None (ToSearch settings.K 1)) o) s h
all_k_bounds true search o s h =
    let form : Form = OfNumber (Some 10) (Within settings.K 1 MAX_BEAM) in
    let n = is_number settings.K 10 1 MAX_BEAM o in
    let P : Value → Type 0 = λ v. outside_form form v search ≡ None → (1 ≤ number_or (min 10 search) v) × (number_or (min 10 search) v ≤ MAX_BEAM) in
    let here : P (Number n.0) = λ e. outside_none settings.K n.0 1 MAX_BEAM e in
    subst P (sym n.1) here h

-- the code of a kind
code_bounds : (greatest search : ℕ) (o : Option (List ℕ)) → outside_form (OfKind Vamana greatest) (value_or_default (OfKind Vamana greatest) o) search ≡ None → kind_code (kind_of (value_or_default (OfKind Vamana greatest) o)) ≤ greatest
code_bounds greatest search o h =
    let n = is_kind Vamana greatest o in
    let P : Value → Type 0 = λ v. outside_form (OfKind Vamana greatest) v search ≡ None → kind_code (kind_of v) ≤ greatest in
    let here : P (KindIs n.0) = λ e. (outside_none settings.Kind (kind_code n.0) 1 greatest e).1 in
    subst P (sym n.1) here h

-- the greatest degrees
least_degree : (kind : Kind) (n : ℕ) → n ≤ greatest_degree kind → n ≤ MAX_DEGREE
least_degree Vamana n h = h
least_degree Hnsw n h = omega (arith, h)
least_degree Nnd n h = h

-- --kind is an option of a command for any kind or for none, so the words say one kind
pub same_kind : (verb : Verb) (kind : Kind) (given : List Item) → kind ≡ kind_said verb given → kind_of (setting verb kind given options.Kind) ≡ kind
unfolding setting kind_said
same_kind verb kind given is = sym is

pub in_range : (verb : Verb) (kind : Kind) (given : List Item) → kind ≡ kind_said verb given → None ≡ first_outside verb kind given → IsInRange verb (settings_of (setting verb kind given))
unfolding first_outside setting
in_range verb kind given said h =
    let at : (k : ℕ) → k < 27 → outside_option verb kind given (get_or every_option k options.Workers) ≡ None = λ k l. none_at (outside_option verb kind given) every_option h k options.Workers l in
    let search : ℕ = number_or 0 (setting verb kind given options.Search) in
    let text : OptionName → Option (List ℕ) = given_text verb kind given in
    let same : kind_of (setting verb kind given options.Kind) ≡ kind = same_kind verb kind given said in
    let code = code_bounds (cond (is_live verb) 1 3) search (text options.Kind) (at 0 (lit< tt)) in
    let workers = in_bounds settings.Workers 4 1 MAX_WORKERS search (text options.Workers) (at 1 (lit< tt)) in
    let degree = in_bounds settings.Degree _ 1 (greatest_degree (shape_kind verb kind)) search (text options.Degree) (at 6 (lit< tt)) in
    let beam = in_bounds settings.Beam 128 1 MAX_BEAM search (text options.Beam) (at 7 (lit< tt)) in
    let alpha = alpha_bounds 12 10 1000 search (text options.Alpha) (at 8 (lit< tt)) in
    let cap = cap_bounds settings.Cap 1 MAX_POINTS search (setting verb kind given options.Cap) (at 9 (lit< tt)) in
    let passes = in_bounds settings.Passes 1 1 2 search (text options.Passes) (at 10 (lit< tt)) in
    let bits = in_bounds settings.Bits 4 1 8 search (text options.Bits) (at 11 (lit< tt)) in
    let max_level = in_bounds settings.MaxLevel 15 0 15 search (text options.MaxLevel) (at 12 (lit< tt)) in
    let list = in_bounds settings.List 40 1 128 search (text options.List) (at 13 (lit< tt)) in
    let trees = in_bounds settings.Trees 8 1 64 search (text options.Trees) (at 14 (lit< tt)) in
    let leaf = in_bounds settings.Leaf 64 2 1024 search (text options.Leaf) (at 15 (lit< tt)) in
    let rounds = in_bounds settings.RoundCount 10 0 64 search (text options.Rounds) (at 16 (lit< tt)) in
    let format = in_bounds settings.Format 1 1 2 search (text options.Format) (at 18 (lit< tt)) in
    let count = in_bounds settings.Count 1000 1 MAX_POINTS search (text options.Count) (at 19 (lit< tt)) in
    let dim = in_bounds settings.Dim 16 1 MAX_DIM search (text options.Dim) (at 20 (lit< tt)) in
    let queries = in_bounds settings.QueryCount 100 1 4096 search (text options.Queries) (at 21 (lit< tt)) in
    let width = in_bounds settings.Search 64 1 MAX_BEAM search (text options.Search) (at 22 (lit< tt)) in
    let k = all_k_bounds (is_exact verb) search (text options.K) width.0 (at 23 (lit< tt)) in
    let callers = in_bounds settings.Callers 2 1 MAX_CALLERS search (text options.Callers) (at 24 (lit< tt)) in
    let label = in_bounds settings.Label 0 0 63 search (text options.Label) (at 25 (lit< tt)) in
    record {
      kind = code;
      build = record {
        some_worker = workers.0;
        workers = workers.1;
        some_degree = degree.0;
        degree = least_degree (shape_kind verb kind) _ degree.1;
        bound = subst (λ x. number_or 0 (setting verb kind given options.Degree) ≤ greatest_degree (shape_kind verb x)) (sym same) degree.1;
        some_beam = beam.0;
        beam = beam.1;
        some_den = alpha.some_den;
        ordered = alpha.ordered;
        num = alpha.num;
        cap = cap;
        some_pass = passes.0;
        passes = passes.1;
        some_bit = bits.0;
        bits = bits.1;
        max_level = max_level.1;
        some_entry = list.0;
        list = list.1;
        some_tree = trees.0;
        trees = trees.1;
        two_in_a_leaf = leaf.0;
        leaf = leaf.1;
        rounds = rounds.1;
        some_format = format.0;
        format = format.1;
      };
      some_point = count.0;
      count = count.1;
      some_column = dim.0;
      dim = dim.1;
      some_query = queries.0;
      queries = queries.1;
      some_search = width.0;
      search = width.1;
      some_k = k.0;
      k = k.1;
      some_caller = callers.0;
      callers = callers.1;
      label = label.1;
      defaults =
          ap (λ x. settings_of (kept verb x (values_of (settings_of (setting verb kind given))))) same
          ∙ kept_settings verb kind (λ o. slice_get (values_for (option_name o) given) 0) (setting verb kind given) (λ o. refl);
    }
