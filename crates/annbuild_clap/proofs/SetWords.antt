-- The words that set options, one option after another.
use Rattle.std.proofs.Common.{◌≡◌, ℕ, ◌+◌, ◌<◌, List, [], ◌∷◌, ◌++◌, length, get_or, take, ap, sym, ◌∙◌}
use Rattle.std.proofs.lemmas.List.{append_assoc, take_more}
use Rattle.std.proofs.lemmas.List.Elements.{filter_map-append}
use Rattle.command_options.specs.declared.option_name.OptionName.{OptionName}
use Rattle.annbuild_words.specs.Asked.{Command}
use Rattle.annbuild_clap.specs.Canonical.{set_words}

pub one_more : (c : Command) (old new start : List (List ℕ)) (options : List OptionName) (i : ℕ) (d : OptionName) → i < length options → new ≡ old ++ set_words c (get_or options i d ∷ [])
    → old ≡ start ++ set_words c (take i options) → new ≡ start ++ set_words c (take (i + 1) options)
one_more c old new start options i d h is so_far =
    is ∙ ap (λ ws. ws ++ set_words c (get_or options i d ∷ [])) so_far ∙ append_assoc start (set_words c (take i options)) (set_words c (get_or options i d ∷ []))
    ∙ ap (λ ws. start ++ ws) (sym (filter_map-append _ (take i options) (get_or options i d ∷ []))) ∙ ap (λ os. start ++ set_words c os) (sym (take_more options i d h))
