-- What the first word says of the command.
use Rattle.std.proofs.Common.{◌≡◌, ◌∙◌, ℕ, Bool, true, false, cond, not, List, [], ◌∷◌, refl, sym, ap, subst, Option, Some, None}
use Rattle.std.specs.Str.{bytes_eq}
use Rattle.std.proofs.lemmas.Slice.Eq.{bytes_eq-Decides}
use Rattle.ann_defs.specs.declared.kinds.Kind.{Kind}
use Rattle.command_options.specs.Names.{first_named}
use Rattle.command_options.specs.Shapes.{is_live, is_built}
use Rattle.command_options.specs.Verbs.{verb_name, verb_in, every_verb}
use Rattle.command_options.specs.declared.verb.Verb.{Verb}
use Rattle.command_options.specs.declared.verb.Verb.TheVariants.{Live}
use Rattle.command_options.proofs.EachVerb.{each_verb}
use Rattle.std.specs.Prelude.{◌&&◌}
use Rattle.command_options.specs.Settings.{settings_of}
use Rattle.annbuild_words.specs.Rules.{keeps_rules, setting, first_outside}
use Rattle.annbuild_words.specs.Words.{Item, items, files_of}
use Rattle.annbuild_words.specs.Asked.{Command, Meaning, request_of, meaning_of, meaning_by, kind_said, checked, named}
use Rattle.annbuild_words.specs.Asked.Meaning.{Nothing', Outside', Means}
use Rattle.annbuild_words.specs.declared.range.OutOfRange.{OutOfRange}
use Rattle.annbuild_commands.specs.Ending.{begins_live}

same_choice : {A : Type 0} (x y : A) → Some x ≡ Some y → x ≡ y
same_choice x y s = cc

-- a choice that a word names has the word for its name
is_named : {A : Type 0} (name : A → List ℕ) (choices : List A) (word : List ℕ) (choice : A) → first_named name choices word ≡ Some choice → bytes_eq word (name choice) ≡ true
is_named name [] word choice e = cc
is_named name (c ∷ choices) word choice e = elim (bytes_eq word (name c)) as (λ b. bytes_eq word (name c) ≡ b → cond b (Some c) (first_named name choices word) ≡ Some choice → bytes_eq word (name choice) ≡ true) [
  | true ↦ λ is one. subst (λ x. bytes_eq word (name x) ≡ true) (same_choice c choice one) is
  | false ↦ λ is more. is_named name choices word choice more
] refl e

-- two tests of which one passes exactly where the other does
agree : (a b : Bool) → cond a b (not b) ≡ true → a ≡ b
agree true true h = refl
agree true false h = cc
agree false true h = cc
agree false false h = refl

-- the word of a command is `live` where the command is
live_named : (verb : Verb) (word : List ℕ) → verb_in word ≡ Some verb → is_live verb ≡ bytes_eq word (verb_name Live)
live_named verb word e =
    let is_its_word : Verb → Bool = λ v. bytes_eq (verb_name v) (verb_name Live) in
    let same : word ≡ verb_name verb = (bytes_eq-Decides word (verb_name verb)).0 (is_named verb_name every_verb word verb e) in
    agree (is_live verb) (is_its_word verb) (each_verb (λ v. cond (is_live v) (is_its_word v) (not (is_its_word v))) refl verb) ∙ ap (λ w. bytes_eq w (verb_name Live)) (sym same)

-- the command of a meaning
verb_or : Verb → Meaning → Verb
verb_or verb Nothing' = verb
verb_or verb (Outside' name value least greatest) = verb
verb_or verb (Means c) = c.verb

checked_verb : (o : Option OutOfRange) (d c : Command) → checked o d ≡ Means c → c.verb ≡ d.verb
unfolding verb_or
checked_verb None d c e = sym (ap (verb_or d.verb) e)
checked_verb (Some o) d c e = cc

cond_verb : (b : Bool) (m : Meaning) (c : Command) (verb : Verb) → (m ≡ Means c → c.verb ≡ verb) → cond b m Nothing' ≡ Means c → c.verb ≡ verb
cond_verb true m c verb f e = f e
cond_verb false m c verb f e = cc

by_verb : (verb : Verb) (kind : Kind) (words : List Item) (c : Command) → meaning_by verb kind words ≡ Means c → c.verb ≡ verb
unfolding meaning_by
by_verb verb kind words c e =
    let d = named verb (files_of words) (settings_of (setting verb kind words)) in
    cond_verb (is_built verb kind && keeps_rules verb kind words) (checked (first_outside verb kind words) d) c verb (λ is. checked_verb (first_outside verb kind words) d c is) e

meaning_verb : (verb : Option Verb) (words : List Item) (c : Command) → meaning_of verb words ≡ Means c → verb ≡ Some c.verb
meaning_verb None words c e = cc
meaning_verb (Some verb) words c e = ap Some (sym (by_verb verb (kind_said verb words) words c e))

pub first_word : (words : List (List ℕ)) (c : Command) → request_of words ≡ Means c → is_live c.verb ≡ begins_live words
first_word [] c e = cc
first_word (word ∷ words) c e = live_named c.verb word (meaning_verb (verb_in word) (items words) c e)

-- the one command that builds beside callers
pub live_is : (words : List (List ℕ)) (c : Command) → begins_live words ≡ true → request_of words ≡ Means c → c.verb ≡ Live
live_is [] c first e = cc
live_is (word ∷ words) c first e =
    let same : word ≡ verb_name Live = (bytes_eq-Decides word (verb_name Live)).0 first in
    sym (same_choice Live c.verb (ap verb_in (sym same) ∙ meaning_verb (verb_in word) (items words) c e))
