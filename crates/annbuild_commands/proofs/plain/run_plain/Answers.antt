use Rattle.std.proofs.Common.{map}
use Rattle.std.specs.Prelude.{string_bytes}
use Rattle.annbuild_commands.proofs.Answered.{plain_command, promised}
use Rattle.annbuild_commands.proofs.Asking.{answered}
use Rattle.annbuild_commands.proofs.plain.run_plain.Goals as goal

pub do_plain-requires-clause-plain : goal.do_plain-requires-clause-plain
do_plain-requires-clause-plain g c κs within = plain_command (map (λ w. string_bytes w) c.args.words.now) c.in-Ok.parsed c.requires c.in-Ok.ensures.means

pub returns-in-Ok-clause-promises : goal.returns-in-Ok-clause-promises
returns-in-Ok-clause-promises g c =
    promised _ _ _ _ _ _ _ _ _ c.settle.ensures.fault (answered _ c.in-Ok.parsed _ _ _ _ _ c.in-Ok.ensures.means c.do_plain.ensures) c.settle.ensures.silent c.settle.ensures.told

pub returns-in-Err-clause-promises : goal.returns-in-Err-clause-promises
returns-in-Err-clause-promises g c = promised _ _ _ _ _ _ _ _ _ c.settle-in-Err.ensures.fault (c.in-Err.ensures.answered _ _) c.settle-in-Err.ensures.silent c.settle-in-Err.ensures.told
