use Rattle.std.proofs.Common.{◌≡◌, Some, ap, ◌∙◌, arith}
use Rattle.std.proofs.lemmas.Result.{IfOk-weaker}
use Rattle.clap.specs.Words.{subcommand_of}
use Rattle.annbuild_words.specs.Asked.{Command, command_of}
use Rattle.annbuild_words.specs.Parts.{texts}
use Rattle.command_options.specs.Settings.{IsInRange}
use Rattle.annbuild_clap.specs.Canonical.{canonical_words}
use Rattle.annbuild_clap.specs.Program.{program, command_in}
use Rattle.annbuild_clap.proofs.ByClap.{taken, back, some_command, on_command, same_command}
use Rattle.annbuild_clap.proofs.through_clap.parse_by_clap.Goals as goal

canonical : (c : goal.After-deref) → texts c.deref.result.now ≡ canonical_words (command_of c.args.request.now)
canonical c = ap texts c.deref.ensures.value ∙ c.in_ok-words.ensures

read : (c : goal.After-deref) → command_in (subcommand_of program (texts c.deref.result.now)) ≡ Some (command_of c.args.request.now)
read c = back _ (command_of c.args.request.now) (canonical c) c.requires.no_more c.requires.in_range (omega (arith, c.if-prove.false)) (omega (arith, c.if-prove-2.false))

pub parse_words-requires-clause-taken : goal.parse_words-requires-clause-taken
parse_words-requires-clause-taken c = taken _ (command_of c.args.request.now) (canonical c) c.requires.no_more

pub parse_words-requires-clause-some : goal.parse_words-requires-clause-some
parse_words-requires-clause-some c = some_command _ _ (read c)

pub parse_words-requires-clause-in_range : goal.parse_words-requires-clause-in_range
parse_words-requires-clause-in_range c = on_command (λ (x : Command). IsInRange x.verb x.settings) _ _ (read c) c.requires.in_range

pub returns : goal.returns
returns c =
    let is = back _ (command_of c.args.request.now) (ap texts c.deref.ensures.value ∙ c.in_ok-words.ensures) c.requires.no_more c.requires.in_range (omega (arith, c.if-prove.false)) (omega (arith, c.if-prove-2.false)) in
    IfOk-weaker c.parse_words.result _ _ (λ p h. same_command _ _ _ h is) c.parse_words.ensures
