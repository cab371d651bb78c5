use Rattle.std.proofs.Common.{◌≡◌, drop}
use Rattle.command_options.specs.Names.{first_named}
use Rattle.command_options.proofs.names.find_named.Given as goal

abbrev pub invariant-loop-choice : goal.invariant-loop-choice
invariant-loop-choice g l = first_named g.T.Named.name_of (drop l.choice-index l.choices) l.word ≡ first_named g.T.Named.name_of l.choices l.word
