use Rattle.std.proofs.Common.{◌≡◌, ℕ, List, [], ◌∷◌, length, drop, refl, ap, sym, subst, ◌∙◌}
use Rattle.annbuild_words.specs.Parts.{items_of}
use Rattle.command_options.specs.Settings.{IsInRange}
use Rattle.annbuild_words.specs.Asked.{file_at}
use Rattle.command_options.specs.Verbs.{roles_of}
use Rattle.command_options.specs.Shapes.{is_built}
use Rattle.annbuild_words.specs.Words.{files_of}
use Rattle.annbuild_words.proofs.FewWords.{few_names, names_counted}
use Rattle.annbuild_words.proofs.SpareNames.{spare}
use Rattle.annbuild_words.proofs.Ranges.{in_range, same_kind}
use Rattle.annbuild_words.proofs.words.asked_by.Goals as goal

same_names : {a b c d e f g h : List ℕ} → a ≡ e → b ≡ f → c ≡ g → d ≡ h → (a ∷ b ∷ c ∷ d ∷ []) ≡ (e ∷ f ∷ g ∷ h ∷ [])
same_names p q r s = rw (p, q, r, s) refl

pub settings_of-requires : goal.settings_of-requires
settings_of-requires c = in_range c.args.verb c.args.kind (items_of c.args.parts.now) c.requires c.in-None.ensures

pub returns-in-None-clause-allowed : goal.returns-in-None-clause-allowed
returns-in-None-clause-allowed c =
    let kind : c.settings_of.result.kind ≡ c.args.kind = ap (λ s. s.kind) c.settings_of.ensures ∙ same_kind c.args.verb c.args.kind (items_of c.args.parts.now) c.requires in
    let files : List (List ℕ) = files_of (items_of c.args.parts.now) in
    let counted : length files ≡ length (roles_of c.args.verb) = names_counted c.args.verb c.args.kind (items_of c.args.parts.now) (sym c.keep_rules.ensures ∙ c.if-not-keep_rules.false) in
    let same : (c.file.result.now ∷ c.file-in-None.result.now ∷ c.file-in-None-2.result.now ∷ c.file-in-None-3.result.now ∷ []) ≡ (file_at files 0 ∷ file_at files 1 ∷ file_at files 2 ∷ file_at files 3 ∷ []) =
    same_names c.file.ensures c.file-in-None.ensures c.file-in-None-2.ensures c.file-in-None-3.ensures in
    record {
      no_more = ap (drop (length (roles_of c.args.verb))) same ∙ spare files (length (roles_of c.args.verb)) counted (few_names c.args.verb);
      built = ap (is_built c.args.verb) kind ∙ sym c.is_built.ensures ∙ c.if-not-is_built.false;
      in_range = subst (IsInRange c.args.verb) (sym c.settings_of.ensures) (in_range c.args.verb c.args.kind (items_of c.args.parts.now) c.requires c.in-None.ensures);
    }
