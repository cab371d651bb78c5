-- Words that keep the rules are few: each option at most once, with its value, and the file names.
use Rattle.std.proofs.Common.{◌≡◌, ℕ, suc, ◌+◌, ◌*◌, ◌<◌, ◌≤◌, ◌==◌, Bool, true, false, cond, not, leb, ◌&&◌, ◌||◌, List, [], ◌∷◌, length, Option, Some, None, refl, sym, arith}
use Rattle.std.proofs.lemmas.Bool.{false≢true, eqb-true, leb-true}
use Rattle.std.specs.List.{list_all, cons_option}
use Rattle.std.specs.Str.{bytes_eq}
use Rattle.ann_defs.specs.declared.kinds.Kind.{Kind}
use Rattle.command_options.specs.declared.form.Form.{Form}
use Rattle.command_options.specs.declared.verb.Verb.{Verb}
use Rattle.command_options.proofs.EachVerb.{each_verb}
use Rattle.command_options.specs.declared.option_name.OptionName.{OptionName}
use Rattle.annbuild_words.specs.Asked.{Meaning, Nothing', meaning_by}
use Rattle.command_options.specs.Forms.{option_form}
use Rattle.command_options.specs.Options.{option_name, every_option, is_named}
use Rattle.command_options.specs.Shapes.{has_option}
use Rattle.annbuild_words.specs.Rules.{is_known, is_set_well, keeps_rules}
use Rattle.command_options.specs.Verbs.{roles_of}
use Rattle.command_options.specs.Shapes.{is_built}
use Rattle.annbuild_words.specs.Words.{Item, Sets, IsValue, Names, Wrong, is_dashed, is_option, has_equals, is_bare, bare_item, item, items, items_after, value_for, values_for, files_of}

two_parts : (a b : Bool) → (a && b) ≡ true → (a ≡ true) × (b ≡ true)
two_parts true b h = (refl, h)
two_parts false b h = absurd (false≢true h)

not_true : (b : Bool) → (b ≡ true → ⊥) → b ≡ false
not_true true h = absurd (h refl)
not_true false h = refl

-- how many words an item accounts for: an option also for its value, which a word after it may be
abbrev weight : Item → ℕ
weight (Sets name value) = 2
weight IsValue = 0
weight (Names file) = 1
weight Wrong = 0

abbrev due : Bool → ℕ
due taken = cond taken 1 0

abbrev weights : List Item → ℕ
weights [] = 0
weights (x ∷ xs) = weight x + weights xs

bare_on : (b : Bool) (name next : List ℕ) → is_known (cond b Wrong (Sets name next)) ≡ true → weight (cond b Wrong (Sets name next)) ≡ 2
bare_on true name next h = absurd (false≢true h)
bare_on false name next h = refl

bare_weight : (word : List ℕ) (after : List (List ℕ)) → is_known (bare_item word after) ≡ true → weight (bare_item word after) ≡ 2
bare_weight word [] h = absurd (false≢true h)
bare_weight word (next ∷ after) h = bare_on (is_dashed next) word next h

word_on : (o e d t : Bool) (a v : List ℕ) (b : Item) (word : List ℕ) → (is_known b ≡ true → weight b ≡ 2) → is_known (cond o (cond e (Sets a v) b) (cond d Wrong (cond t IsValue (Names word)))) ≡ true
    → 1 + due (o && not e) ≤ due t + weight (cond o (cond e (Sets a v) b) (cond d Wrong (cond t IsValue (Names word))))
word_on true true d t a v b word w h = omega arith
word_on true false d t a v b word w h = omega (arith, w h)
word_on false e true t a v b word w h = absurd (false≢true h)
word_on false e false true a v b word w h = omega arith
word_on false e false false a v b word w h = omega arith

weighed : (taken : Bool) (ws : List (List ℕ)) → list_all is_known (items_after taken ws) ≡ true → length ws ≤ due taken + weights (items_after taken ws)
weighed taken [] h = omega arith
weighed taken (w ∷ ws) h =
    let parts = two_parts (is_known (item taken w ws)) (list_all is_known (items_after (is_bare w) ws)) h in
    let here = word_on (is_option w) (has_equals w) (is_dashed w) taken _ _ (bare_item w ws) w (bare_weight w ws) parts.0 in
    let rest = weighed (is_bare w) ws parts.1 in
    omega (arith, here, rest)

-- the options that are set
abbrev sets : List Item → ℕ
sets [] = 0
sets (Sets name value ∷ xs) = suc (sets xs)
sets (IsValue ∷ xs) = sets xs
sets (Names file ∷ xs) = sets xs
sets (Wrong ∷ xs) = sets xs

weights_are : (xs : List Item) → weights xs ≡ 2 * sets xs + length (files_of xs)
weights_are [] = refl
weights_are (Sets name value ∷ xs) = omega (arith, weights_are xs)
weights_are (IsValue ∷ xs) = omega (arith, weights_are xs)
weights_are (Names file ∷ xs) = omega (arith, weights_are xs)
weights_are (Wrong ∷ xs) = omega (arith, weights_are xs)

-- the values that items set for these options
abbrev total : List OptionName → List Item → ℕ
total [] xs = 0
total (o ∷ os) xs = length (values_for (option_name o) xs) + total os xs

no_less : (o : Option (List ℕ)) (xs : List (List ℕ)) → length xs ≤ length (cons_option o xs)
no_less None xs = omega arith
no_less (Some x) xs = omega arith

total_grows : (os : List OptionName) (x : Item) (xs : List Item) → total os xs ≤ total os (x ∷ xs)
total_grows [] x xs = omega arith
total_grows (o ∷ os) x xs = omega (arith, no_less (value_for (option_name o) x) (values_for (option_name o) xs), total_grows os x xs)

one_more : (b : Bool) (value : List ℕ) (vs : List (List ℕ)) (m m' : ℕ) (rest : Bool) → (b || rest) ≡ true → m ≤ m' → (rest ≡ true → suc m ≤ m') → suc (length vs + m) ≤ length (cons_option (cond b (Some value) None) vs) + m'
one_more true value vs m m' rest h grows more = omega (arith, grows)
one_more false value vs m m' rest h grows more = omega (arith, more h)

total_more : (os : List OptionName) (name value : List ℕ) (xs : List Item) → is_named name os ≡ true → suc (total os xs) ≤ total os (Sets name value ∷ xs)
total_more [] name value xs h = absurd (false≢true h)
total_more (o ∷ os) name value xs h =
    one_more (bytes_eq name (option_name o)) value (values_for (option_name o) xs) (total os xs) (total os (Sets name value ∷ xs)) (is_named name os) h (total_grows os (Sets name value) xs) (total_more os name value xs)

sets_few : (xs : List Item) → list_all is_known xs ≡ true → sets xs ≤ total every_option xs
sets_few [] h = omega arith
sets_few (Sets name value ∷ xs) h =
    let parts = two_parts (is_named name every_option) (list_all is_known xs) h in
    let more : suc (total every_option xs) ≤ total every_option (Sets name value ∷ xs) = total_more every_option name value xs parts.0 in
    let rest : sets xs ≤ total every_option xs = sets_few xs parts.1 in
    omega (arith, more, rest)
sets_few (IsValue ∷ xs) h =
    let grows : total every_option xs ≤ total every_option (IsValue ∷ xs) = total_grows every_option IsValue xs in
    let rest : sets xs ≤ total every_option xs = sets_few xs h in
    omega (arith, grows, rest)
sets_few (Names file ∷ xs) h =
    let grows : total every_option xs ≤ total every_option (Names file ∷ xs) = total_grows every_option (Names file) xs in
    let rest : sets xs ≤ total every_option xs = sets_few xs (two_parts (is_known (Names file)) (list_all is_known xs) h).1 in
    omega (arith, grows, rest)
sets_few (Wrong ∷ xs) h = absurd (false≢true h)

at_most_once : (m : Bool) (form : Form) (texts : List (List ℕ)) → is_set_well m form texts ≡ true → length texts ≤ 1
at_most_once m form [] h = omega arith
at_most_once m form (a ∷ []) h = omega arith
at_most_once m form (a ∷ b ∷ texts) h = absurd (false≢true h)

total_few : (verb : Verb) (kind : Kind) (os : List OptionName) (xs : List Item) → list_all (λ o. is_set_well (has_option verb kind o) (option_form verb kind o) (values_for (option_name o) xs)) os ≡ true → total os xs ≤ length os
total_few verb kind [] xs h = omega arith
total_few verb kind (o ∷ os) xs h =
    let parts = two_parts (is_set_well (has_option verb kind o) (option_form verb kind o) (values_for (option_name o) xs)) (list_all (λ o. is_set_well (has_option verb kind o) (option_form verb kind o) (values_for (option_name o) xs)) os) h in
    omega (arith, at_most_once (has_option verb kind o) (option_form verb kind o) (values_for (option_name o) xs) parts.0, total_few verb kind os xs parts.1)

pub few_names : (verb : Verb) → length (roles_of verb) ≤ 4
few_names verb = leb-true (length (roles_of verb)) 4 (each_verb (λ v. leb (length (roles_of v)) 4) refl verb)

-- the file names are as many as the command has
pub names_counted : (verb : Verb) (kind : Kind) (xs : List Item) → keeps_rules verb kind xs ≡ true → length (files_of xs) ≡ length (roles_of verb)
unfolding keeps_rules
names_counted verb kind xs h =
    let known = two_parts (list_all is_known xs) _ h in
    let well = two_parts (list_all (λ o. is_set_well (has_option verb kind o) (option_form verb kind o) (values_for (option_name o) xs)) every_option) (length (files_of xs) == length (roles_of verb)) known.1 in
    eqb-true _ _ well.1

few_words : (verb : Verb) (kind : Kind) (words : List (List ℕ)) → keeps_rules verb kind (items words) ≡ true → length words ≤ 58
unfolding keeps_rules items
few_words verb kind words h =
    let xs : List Item = items_after false words in
    let known = two_parts (list_all is_known xs) _ h in
    let well = two_parts (list_all (λ o. is_set_well (has_option verb kind o) (option_form verb kind o) (values_for (option_name o) xs)) every_option) (length (files_of xs) == length (roles_of verb)) known.1 in
    let count : length (files_of xs) ≡ length (roles_of verb) = eqb-true _ _ well.1 in
    let long : length words ≤ 0 + weights xs = weighed false words known.0 in
    let heavy : weights xs ≡ 2 * sets xs + length (files_of xs) = weights_are xs in
    let some : sets xs ≤ total every_option xs = sets_few xs known.0 in
    let few : total every_option xs ≤ 27 = total_few verb kind every_option xs well.0 in
    omega (arith, long, heavy, some, few, count, few_names verb)

nothing : (a b : Bool) (m : Meaning) → b ≡ false → Nothing' ≡ cond (a && b) m Nothing'
nothing true true m h = absurd (false≢true (sym h))
nothing true false m h = refl
nothing false b m h = refl

pub too_many : (verb : Verb) (kind : Kind) (words : List (List ℕ)) → 58 < length words → Nothing' ≡ meaning_by verb kind (items words)
unfolding meaning_by
too_many verb kind words h =
    let broken : keeps_rules verb kind (items words) ≡ false = not_true (keeps_rules verb kind (items words)) (λ e. let few : length words ≤ 58 = few_words verb kind words e in omega (arith, h, few)) in
    nothing (is_built verb kind) (keeps_rules verb kind (items words)) _ broken
