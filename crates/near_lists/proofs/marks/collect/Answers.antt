use Rattle.std.proofs.Common.{◌<◌, length, arith}
use Rattle.std.proofs.lemmas.List.Elements.{All-get_or}
use Rattle.near_lists.proofs.Marking.{unseen_none, unseen_more}
use Rattle.near_lists.proofs.marks.collect.Goals as goal

pub loop-id-init : goal.loop-id-init
loop-id-init c = record { unseen = unseen_none c.args.seen c.args.marks.now; bound = omega arith }

pub loop-id-preserved : goal.loop-id-preserved
loop-id-preserved c =
    let i = c.loop-id.id-index in
    let fits = All-get_or (λ u. u < length c.args.marks.now) c.args.ids.now i 0 c.loop-id-test.true c.requires.ids in
    let more = unseen_more c.args.seen c.args.ids.now c.args.marks.now c.loop-id.todo c.loop-id.marks i c.loop-id.count c.max.result c.loop-id-test.true c.loop-id.invariant.bound (omega arith) (omega arith) c.max.ensures c.loop-id.invariant.unseen in
    record { unseen = more.0; bound = more.1 }
