use Rattle.std.proofs.Common.{◌≡◌, ap, ap₂, ◌∙◌}
use Rattle.std.specs.Option.{option_copied}
use Rattle.clap.specs.Words.{found_of, first_of, rows_of}
use Rattle.clap.proofs.WalkLemmas.{first_value-rows}
use Rattle.annbuild_words.specs.ValueTexts.{value_or_default}
use Rattle.command_options.specs.Options.{long_name}
use Rattle.annbuild_clap.proofs.found.MatchesValues.value.Goals as goal

pub returns : goal.returns
returns c =
    let found = found_of c.args.self.now.found.now in
    let text : option_copied c.get_str.result ≡ first_of (long_name c.args.option) (rows_of found) =
    c.get_str.ensures ∙ first_value-rows found c.long_of.result.now ∙ ap (λ name. first_of name (rows_of found)) c.long_of.ensures in
    c.or_default.ensures ∙ ap₂ value_or_default c.form_of-form.ensures text
