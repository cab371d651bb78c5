-- What clap makes of canonical words, computed for each command and kind.
use Rattle.std.proofs.Common.{◌≡◌, ℕ, true, cond, List, [], get_or, Option, Some, None, refl, sym, subst}
use Rattle.clap.specs.Words.{subcommand_of, takes}
use Rattle.clap.proofs.OnLiterals.{clap_on_literals}
use Rattle.ann_defs.specs.declared.kinds.Kind.{Kind}
use Rattle.ann_defs.specs.declared.kinds.Kind.TheVariants.{Vamana, Hnsw, Nnd}
use Rattle.command_options.specs.declared.settings.Settings.{Settings}
use Rattle.command_options.specs.declared.verb.Verb.{Verb}
use Rattle.command_options.specs.declared.verb.Verb.TheVariants as verbs
use Rattle.command_options.specs.declared.option_name.OptionName.{OptionName}
use Rattle.command_options.specs.declared.value.Value.{Value}
use Rattle.annbuild_words.specs.Asked.{Command, HasNoMore}
use Rattle.command_options.specs.Forms.{option_form}
use Rattle.annbuild_words.specs.ValueTexts.{value_or_default, value_in}
use Rattle.command_options.specs.Settings.{settings_of, values_of}
use Rattle.command_options.specs.Shapes.{has_option}
use Rattle.annbuild_clap.specs.Canonical.{canonical_words, value_text}
use Rattle.annbuild_clap.specs.Program.{program, command_app, with_option, command_in}

-- the values that the texts of a command's options write
abbrev pub read_back : Verb → Kind → (OptionName → Value) → OptionName → Value
read_back verb kind v option = value_or_default (option_form verb kind option) (cond (has_option verb kind option) (value_text (v option)) None)

-- clap takes the canonical words of a command, and what it makes of them is the command, with the values of its words
pub record IsRead (c : Command) : Type 0 where
  pub taken : takes program (canonical_words c) ≡ true
  pub found : command_in (subcommand_of program (canonical_words c)) ≡ Some (record c { settings = settings_of (read_back c.verb c.settings.kind (values_of c.settings)) })

abbrev with : Verb → (a b c d : List ℕ) → Settings → Command
with verb a b c d s = record { verb = verb; first = a; second = b; third = c; fourth = d; settings = s }

build_vamana : (a b : List ℕ) (s : Settings) (cap : Option ℕ) → IsRead (with verbs.Build a b [] [] (record s { kind = Vamana; cap = cap }))
unfolding clap_on_literals program command_app with_option canonical_words value_in
build_vamana a b s None = record { taken = refl; found = refl }
build_vamana a b s (Some n) = record { taken = refl; found = refl }

build_hnsw : (a b : List ℕ) (s : Settings) (cap : Option ℕ) → IsRead (with verbs.Build a b [] [] (record s { kind = Hnsw; cap = cap }))
unfolding clap_on_literals program command_app with_option canonical_words value_in
build_hnsw a b s None = record { taken = refl; found = refl }
build_hnsw a b s (Some n) = record { taken = refl; found = refl }

build_nnd : (a b : List ℕ) (s : Settings) → IsRead (with verbs.Build a b [] [] (record s { kind = Nnd }))
unfolding clap_on_literals program command_app with_option canonical_words value_in
build_nnd a b s = record { taken = refl; found = refl }

query : (a b c : List ℕ) (s : Settings) → IsRead (with verbs.Query a b c [] s)
unfolding clap_on_literals program command_app with_option canonical_words
query a b c s = record { taken = refl; found = refl }

check : (a b : List ℕ) (s : Settings) → IsRead (with verbs.Check a b [] [] s)
unfolding clap_on_literals program command_app with_option canonical_words
check a b s = record { taken = refl; found = refl }

make : (a : List ℕ) (s : Settings) → IsRead (with verbs.Make a [] [] [] s)
unfolding clap_on_literals program command_app with_option canonical_words
make a s = record { taken = refl; found = refl }

trial_vamana : (s : Settings) (cap : Option ℕ) → IsRead (with verbs.Trial [] [] [] [] (record s { kind = Vamana; cap = cap }))
unfolding clap_on_literals program command_app with_option canonical_words value_in
trial_vamana s None = record { taken = refl; found = refl }
trial_vamana s (Some n) = record { taken = refl; found = refl }

trial_hnsw : (s : Settings) (cap : Option ℕ) → IsRead (with verbs.Trial [] [] [] [] (record s { kind = Hnsw; cap = cap }))
unfolding clap_on_literals program command_app with_option canonical_words value_in
trial_hnsw s None = record { taken = refl; found = refl }
trial_hnsw s (Some n) = record { taken = refl; found = refl }

trial_nnd : (s : Settings) → IsRead (with verbs.Trial [] [] [] [] (record s { kind = Nnd }))
unfolding clap_on_literals program command_app with_option canonical_words value_in
trial_nnd s = record { taken = refl; found = refl }

live : (a b c : List ℕ) (s : Settings) (cap : Option ℕ) → IsRead (with verbs.Live a b c [] (record s { cap = cap }))
unfolding clap_on_literals program command_app with_option canonical_words
live a b c s None = record { taken = refl; found = refl }
live a b c s (Some n) = record { taken = refl; found = refl }

exact : (a b : List ℕ) (s : Settings) → IsRead (with verbs.Exact a b [] [] s)
unfolding clap_on_literals program command_app with_option canonical_words
exact a b s = record { taken = refl; found = refl }

recall : (a b c : List ℕ) (s : Settings) → IsRead (with verbs.Recall a b c [] s)
unfolding clap_on_literals program command_app with_option canonical_words
recall a b c s = record { taken = refl; found = refl }

forget : (a b c d : List ℕ) (s : Settings) → IsRead (with verbs.Forget a b c d s)
unfolding clap_on_literals program command_app with_option canonical_words
forget a b c d s = record { taken = refl; found = refl }

without : (a b c d : List ℕ) (s : Settings) → IsRead (with verbs.Without a b c d s)
unfolding clap_on_literals program command_app with_option canonical_words
without a b c d s = record { taken = refl; found = refl }

label : (a b c : List ℕ) (s : Settings) (cap : Option ℕ) → IsRead (with verbs.Label a b c [] (record s { cap = cap }))
unfolding clap_on_literals program command_app with_option canonical_words
label a b c s None = record { taken = refl; found = refl }
label a b c s (Some n) = record { taken = refl; found = refl }

find : (a b c d : List ℕ) (s : Settings) → IsRead (with verbs.Find a b c d s)
unfolding clap_on_literals program command_app with_option canonical_words
find a b c d s = record { taken = refl; found = refl }

-- the same of any command whose other names are empty
read_with : (verb : Verb) (a b c d : List ℕ) (s : Settings) (kind : Kind) (cap : Option ℕ) → HasNoMore (with verb a b c d (record s { kind = kind; cap = cap })) → IsRead (with verb a b c d (record s { kind = kind; cap = cap }))
read_with verbs.Build a b c d s Vamana cap h = subst (λ (xs : List (List ℕ)). IsRead (with verbs.Build a b (get_or xs 0 []) (get_or xs 1 []) (record s { kind = Vamana; cap = cap }))) (sym h) (build_vamana a b s cap)
read_with verbs.Build a b c d s Hnsw cap h = subst (λ (xs : List (List ℕ)). IsRead (with verbs.Build a b (get_or xs 0 []) (get_or xs 1 []) (record s { kind = Hnsw; cap = cap }))) (sym h) (build_hnsw a b s cap)
read_with verbs.Build a b c d s Nnd cap h = subst (λ (xs : List (List ℕ)). IsRead (with verbs.Build a b (get_or xs 0 []) (get_or xs 1 []) (record s { kind = Nnd; cap = cap }))) (sym h) (build_nnd a b (record s { cap = cap }))
read_with verbs.Query a b c d s kind cap h = subst (λ (xs : List (List ℕ)). IsRead (with verbs.Query a b c (get_or xs 0 []) (record s { kind = kind; cap = cap }))) (sym h) (query a b c (record s { kind = kind; cap = cap }))
read_with verbs.Check a b c d s kind cap h = subst (λ (xs : List (List ℕ)). IsRead (with verbs.Check a b (get_or xs 0 []) (get_or xs 1 []) (record s { kind = kind; cap = cap }))) (sym h) (check a b (record s { kind = kind; cap = cap }))
read_with verbs.Make a b c d s kind cap h = subst (λ (xs : List (List ℕ)). IsRead (with verbs.Make a (get_or xs 0 []) (get_or xs 1 []) (get_or xs 2 []) (record s { kind = kind; cap = cap }))) (sym h) (make a (record s { kind = kind; cap = cap }))
read_with verbs.Trial a b c d s Vamana cap h = subst (λ (xs : List (List ℕ)). IsRead (with verbs.Trial (get_or xs 0 []) (get_or xs 1 []) (get_or xs 2 []) (get_or xs 3 []) (record s { kind = Vamana; cap = cap }))) (sym h) (trial_vamana s cap)
read_with verbs.Trial a b c d s Hnsw cap h = subst (λ (xs : List (List ℕ)). IsRead (with verbs.Trial (get_or xs 0 []) (get_or xs 1 []) (get_or xs 2 []) (get_or xs 3 []) (record s { kind = Hnsw; cap = cap }))) (sym h) (trial_hnsw s cap)
read_with verbs.Trial a b c d s Nnd cap h = subst (λ (xs : List (List ℕ)). IsRead (with verbs.Trial (get_or xs 0 []) (get_or xs 1 []) (get_or xs 2 []) (get_or xs 3 []) (record s { kind = Nnd; cap = cap }))) (sym h) (trial_nnd (record s { cap = cap }))
read_with verbs.Live a b c d s kind cap h = subst (λ (xs : List (List ℕ)). IsRead (with verbs.Live a b c (get_or xs 0 []) (record s { kind = kind; cap = cap }))) (sym h) (live a b c (record s { kind = kind }) cap)
read_with verbs.Exact a b c d s kind cap h = subst (λ (xs : List (List ℕ)). IsRead (with verbs.Exact a b (get_or xs 0 []) (get_or xs 1 []) (record s { kind = kind; cap = cap }))) (sym h) (exact a b (record s { kind = kind; cap = cap }))
read_with verbs.Recall a b c d s kind cap h = subst (λ (xs : List (List ℕ)). IsRead (with verbs.Recall a b c (get_or xs 0 []) (record s { kind = kind; cap = cap }))) (sym h) (recall a b c (record s { kind = kind; cap = cap }))
read_with verbs.Forget a b c d s kind cap h = forget a b c d (record s { kind = kind; cap = cap })
read_with verbs.Without a b c d s kind cap h = without a b c d (record s { kind = kind; cap = cap })
read_with verbs.Label a b c d s kind cap h = subst (λ (xs : List (List ℕ)). IsRead (with verbs.Label a b c (get_or xs 0 []) (record s { kind = kind; cap = cap }))) (sym h) (label a b c (record s { kind = kind }) cap)
read_with verbs.Find a b c d s kind cap h = find a b c d (record s { kind = kind; cap = cap })

pub is_read : (c : Command) → HasNoMore c → IsRead c
is_read c h = read_with c.verb c.first c.second c.third c.fourth c.settings c.settings.kind c.settings.cap h
