use Rattle.std.proofs.Common.{◌≡◌, Some, IfSome, sym, subst}
use Rattle.clap.specs.Words.{found_of, rows_of, subcommand_rows_of}
use Rattle.annbuild_words.specs.Asked.{Command}
use Rattle.command_options.specs.Settings.{IsInRange}
use Rattle.annbuild_clap.specs.Program.{command_by, command_in}
use Rattle.annbuild_clap.proofs.ByClap.{command_named, met}
use Rattle.annbuild_clap.proofs.through_clap.request_in.Goals as goal

pub of-requires : goal.of-requires
of-requires c =
    let rows = rows_of (found_of c.in-Some.found.now) in
    let named : command_in (subcommand_rows_of c.args.matches.now) ≡ Some (command_by c.in-Some-read_verb.verb rows) = command_named _ c.in-Some.name.now rows c.in-Some-read_verb.verb (met c.args.matches.now c.in-Some.name.now rows c.in-Some.ensures.name c.in-Some.ensures.rows) (sym c.in-Some-read_verb.ensures) in
    subst (λ o. IfSome o (λ (x : Command). IsInRange x.verb x.settings)) named c.requires.in_range
