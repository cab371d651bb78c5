use Rattle.std.proofs.Common.{◌≡◌, true, ap, ◌∙◌}
use Rattle.std.proofs.lemmas.Result.{IfOk-weaker}
use Rattle.clap.specs.Words.{App, app_of, is_simple, subcommand_of}
use Rattle.annbuild_words.specs.Parts.{texts}
use Rattle.annbuild_clap.specs.Program.{program}
use Rattle.annbuild_clap.proofs.Nested.{first_passes}
use Rattle.annbuild_clap.proofs.program.matches_of.Goals as goal

pub returns-clause-rows : goal.returns-clause-rows
returns-clause-rows c =
    let is : app_of c.in_ok-whole_program.field-0 ≡ program = c.in_ok-whole_program.ensures in
    let simple : is_simple (app_of c.in_ok-whole_program.field-0) ≡ true = ap is_simple is ∙ first_passes _ _ c.requires in
    IfOk-weaker c.try_get_matches_from.result _ _ (λ m h. (h simple).1 ∙ ap (λ (a : App). subcommand_of a (texts c.args.words.now)) is) c.try_get_matches_from.ensures.matches
