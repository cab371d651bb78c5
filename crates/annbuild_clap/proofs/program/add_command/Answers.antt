use Rattle.std.proofs.lemmas.Result.{IfOk-weaker}
use Rattle.annbuild_clap.specs.Program.{command_app}
use Rattle.annbuild_clap.proofs.Nested.{nested, plain_command}
use Rattle.annbuild_clap.proofs.program.add_command.Goals as goal

pub returns : goal.returns
returns c =
    IfOk-weaker c.subcommand-2.result _ _ (λ r added. nested _ _ r (command_app c.args.verb) added c.in_ok-command.ensures (plain_command c.args.verb)) c.subcommand-2.ensures
