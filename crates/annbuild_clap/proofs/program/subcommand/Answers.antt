use Rattle.std.proofs.Common.{ap, ap₂, ◌∙◌}
use Rattle.std.proofs.lemmas.Result.{IfOk-weaker}
use Rattle.clap.specs.Words.{new_app}
use Rattle.command_options.specs.Options.{every_option}
use Rattle.annbuild_clap.specs.Program.{with_files, with_options, command_app}
use Rattle.annbuild_clap.proofs.program.subcommand.Goals as goal

pub returns : goal.returns
unfolding command_app
returns c =
    IfOk-weaker c.add_files.result _ _
    (λ r is. is ∙ ap₂ with_files (c.in_ok-command.ensures ∙ ap (λ app. with_options c.args.verb app every_option) (c.new.ensures.app ∙ ap new_app c.verb_text-name.ensures)) c.roles_of.ensures)
    c.add_files.ensures
