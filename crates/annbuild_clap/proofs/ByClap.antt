-- The canonical words of a command are read back as the command.
use Rattle.std.specs.Option.{unwrap_or, option_map}
use Rattle.std.proofs.Common.{◌≡◌, ℕ, Bor, ◌<◌, ◌≤◌, ◌^◌, Bool, true, false, cond, List, Option, Some, None, IfSome, IsSome, refl, ap, sym, subst, ◌∙◌, arith}
use Rattle.clap.specs.Simple.{subcommand_rows}
use Rattle.clap.specs.Words.{Row, Text, subcommand_name_of, subcommand_of, subcommand_rows_of, takes}
use Rattle.clap.specs.declared.parser.matches.ArgMatches.{ArgMatches}
use Rattle.clap.specs.declared.parser.matches.ArgMatches.TheViews.{out-ArgMatches, out-SubCommand}
use Rattle.clap.specs.declared.parser.matches.SubCommand.{SubCommand}
use Rattle.std.specs.Prelude.{Box}
use Rattle.std.specs.Box.{box_value}
use Rattle.ann_defs.specs.declared.limits.TheConstants.{MAX_BEAM, MAX_POINTS}
use Rattle.command_options.specs.declared.settings.Settings.{Settings}
use Rattle.command_options.specs.declared.verb.Verb.{Verb}
use Rattle.command_options.specs.declared.form.Form.{Form}
use Rattle.command_options.specs.declared.option_name.OptionName.{OptionName}
use Rattle.command_options.specs.declared.option_name.OptionName.TheVariants as options
use Rattle.command_options.specs.declared.value.Value.{Value}
use Rattle.command_options.specs.declared.value.Value.TheVariants.{Number}
use Rattle.annbuild_words.specs.Asked.{Command, HasNoMore}
use Rattle.command_options.specs.Forms.{option_form, default_value, form_of_k}
use Rattle.annbuild_words.specs.ValueTexts.{value_or_default}
use Rattle.command_options.specs.Settings.{settings_of, values_of, kept, IsInRange}
use Rattle.command_options.specs.Verbs.{verb_in}
use Rattle.command_options.specs.Shapes.{has_option, is_exact}
use Rattle.annbuild_words.proofs.Kept.{same_values}
use Rattle.annbuild_clap.specs.Canonical.{canonical_words, value_text}
use Rattle.annbuild_clap.specs.Program.{program, command_by, command_in}
use Rattle.annbuild_clap.proofs.Computed.{read_back, is_read}
use Rattle.annbuild_clap.proofs.ReadBack.{number_value, optional_value, fraction_value, kind_value, pool_value, order_value, start_value, element_value}

small : (n : ℕ) → n ≤ MAX_POINTS → n < 2 ^ 64
small n h = omega (arith, h)

small_cap : (o : Option ℕ) → IfSome o (λ cap. (1 ≤ cap) × (cap ≤ MAX_POINTS)) → IfSome o (λ n. n < 2 ^ 64)
small_cap None h = tt
small_cap (Some n) h = omega (arith, h)

k_small : (exact : Bool) (k search : ℕ) → search ≤ MAX_BEAM → k ≤ cond exact MAX_BEAM search → k < 2 ^ 64
k_small true k search s h = omega (arith, h)
k_small false k search s h = omega (arith, s, h)

k_value : (exact : Bool) (k : ℕ) → k < 2 ^ 64 → value_or_default (form_of_k exact) (value_text (Number k)) ≡ Number k
k_value true k h = number_value _ _ k h
k_value false k h = number_value _ _ k h

-- each value is the one that its text writes
value_back : (verb : Verb) (s : Settings) → IsInRange verb s → s.seed < 2 ^ 64 → s.floor < 2 ^ 64 → (o : OptionName) → value_or_default (option_form verb s.kind o) (value_text (values_of s o)) ≡ values_of s o
value_back verb s r seed floor options.Kind = kind_value _ s.kind _
value_back verb s r seed floor options.Workers = number_value _ _ s.workers (small s.workers (omega (arith, r.build.workers)))
value_back verb s r seed floor options.Pool = pool_value _ s.pool
value_back verb s r seed floor options.Seed = number_value _ _ s.seed seed
value_back verb s r seed floor options.Order = order_value _ s.order
value_back verb s r seed floor options.Start = start_value _ s.start
value_back verb s r seed floor options.Degree = number_value _ _ s.degree (small s.degree (omega (arith, r.build.degree)))
value_back verb s r seed floor options.Beam = number_value _ _ s.beam (small s.beam (omega (arith, r.build.beam)))
value_back verb s r seed floor options.Alpha = fraction_value _ _ _ s.num s.den (small s.num (omega (arith, r.build.num))) (small s.den (omega (arith, r.build.num, r.build.ordered)))
value_back verb s r seed floor options.Cap = optional_value _ s.cap (small_cap s.cap r.build.cap)
value_back verb s r seed floor options.Passes = number_value _ _ s.passes (small s.passes (omega (arith, r.build.passes)))
value_back verb s r seed floor options.Bits = number_value _ _ s.bits (small s.bits (omega (arith, r.build.bits)))
value_back verb s r seed floor options.MaxLevel = number_value _ _ s.max_level (small s.max_level (omega (arith, r.build.max_level)))
value_back verb s r seed floor options.List = number_value _ _ s.list (small s.list (omega (arith, r.build.list)))
value_back verb s r seed floor options.Trees = number_value _ _ s.trees (small s.trees (omega (arith, r.build.trees)))
value_back verb s r seed floor options.Leaf = number_value _ _ s.leaf (small s.leaf (omega (arith, r.build.leaf)))
value_back verb s r seed floor options.Rounds = number_value _ _ s.rounds (small s.rounds (omega (arith, r.build.rounds)))
value_back verb s r seed floor options.Floor = number_value _ _ s.floor floor
value_back verb s r seed floor options.Format = number_value _ _ s.format (small s.format (omega (arith, r.build.format)))
value_back verb s r seed floor options.Count = number_value _ _ s.count (small s.count (omega (arith, r.count)))
value_back verb s r seed floor options.Dim = number_value _ _ s.dim (small s.dim (omega (arith, r.dim)))
value_back verb s r seed floor options.Queries = number_value _ _ s.queries (small s.queries (omega (arith, r.queries)))
value_back verb s r seed floor options.Search = number_value _ _ s.search (small s.search (omega (arith, r.search)))
value_back verb s r seed floor options.K = k_value (is_exact verb) s.k (k_small (is_exact verb) s.k s.search r.search r.k)
value_back verb s r seed floor options.Callers = number_value _ _ s.callers (small s.callers (omega (arith, r.callers)))
value_back verb s r seed floor options.Label = number_value _ _ s.label (small s.label (omega (arith, r.label)))
value_back verb s r seed floor options.Type = element_value _ s.element

masked : (b : Bool) (form : Form) (v : Value) → value_or_default form (value_text v) ≡ v → value_or_default form (cond b (value_text v) None) ≡ cond b v (default_value form)
masked true form v h = h
masked false form v h = refl

settings_back : (verb : Verb) (s : Settings) → IsInRange verb s → s.seed < 2 ^ 64 → s.floor < 2 ^ 64 → settings_of (read_back verb s.kind (values_of s)) ≡ s
settings_back verb s r seed floor =
    same_values (read_back verb s.kind (values_of s)) (kept verb s.kind (values_of s))
    (λ o. masked (has_option verb s.kind o) (option_form verb s.kind o) (values_of s o) (value_back verb s r seed floor o))
    ∙ r.defaults

pub taken : (words : List (List ℕ)) (c : Command) → words ≡ canonical_words c → HasNoMore c → takes program words ≡ true
taken words c is h = ap (takes program) is ∙ (is_read c h).taken

pub back : (words : List (List ℕ)) (c : Command) → words ≡ canonical_words c → HasNoMore c → IsInRange c.verb c.settings → c.settings.seed < 2 ^ 64 → c.settings.floor < 2 ^ 64 → command_in (subcommand_of program words) ≡ Some c
back words c is h r seed floor =
    ap (λ w. command_in (subcommand_of program w)) is ∙ (is_read c h).found ∙ ap (λ s. Some (record c { settings = s })) (settings_back c.verb c.settings r seed floor)

-- what they stand for, where that is known

pub some_command : (o : Option Command) (c : Command) → o ≡ Some c → IsSome o
some_command o c is = subst IsSome (sym is) refl

pub on_command : (P : Command → Type 0) (o : Option Command) (c : Command) → o ≡ Some c → P c → IfSome o P
on_command P o c is h = subst (λ x. IfSome x P) (sym is) h

pub same_command : (o : Option Command) (a c : Command) → Some a ≡ o → o ≡ Some c → a ≡ c
same_command o a c h is = cc

pub text_or : (o : Option (Bor (List ℕ))) (d : Bor (List ℕ)) → (unwrap_or o d).now ≡ unwrap_or (option_map (λ t. t.now) o) d.now
text_or None d = refl
text_or (Some t) d = refl

-- the command that matches name
pub command_named : (o : Option (Text × List Row)) (name : Text) (rows : List Row) (verb : Verb) → o ≡ Some (name, rows) → verb_in name ≡ Some verb → command_in o ≡ Some (command_by verb rows)
command_named o name rows verb is e = ap command_in is ∙ ap (λ v. option_map (λ v'. command_by v' rows) v) e

-- matches of which name and rows are known
module _ {Z : Type 0} where
  rows_of_both : (o : Option (Box SubCommand Z)) (name : Text) (rows : List Row) → Some name ≡ option_map (λ b. (out-SubCommand (box_value b)).name.now) o → Some rows ≡ option_map (λ p. p.1) (subcommand_rows o) → subcommand_rows o ≡ Some (name, rows)
  rows_of_both None name rows h e = cc
  rows_of_both (Some b) name rows h e = cc

pub met : (m : ArgMatches) (name : Text) (rows : List Row) → Some name ≡ subcommand_name_of m → Some rows ≡ option_map (λ p. p.1) (subcommand_rows_of m) → subcommand_rows_of m ≡ Some (name, rows)
met m name rows h e = rows_of_both (out-ArgMatches m).subcommand name rows h e
