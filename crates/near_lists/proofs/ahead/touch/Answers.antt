use Rattle.std.proofs.Common.{◌<◌, length, take}
use Rattle.std.proofs.lemmas.List.{take-set}
use Rattle.std.proofs.lemmas.List.Elements.{All-get_or}
use Rattle.near_lists.proofs.ahead.touch.Goals as goal

pub at-point-requires : goal.at-point-requires
at-point-requires c = All-get_or (λ u. u < length c.args.points.now.vectors) (take c.args.count c.args.ids.now) c.loop-id.id-index 0 c.loop-id-test.true c.requires.ids

pub returns-clause-ids : goal.returns-clause-ids
returns-clause-ids c = take-set c.args.ids.now c.args.count _
