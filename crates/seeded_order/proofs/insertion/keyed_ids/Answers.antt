use Rattle.std.proofs.Common.{refl}
use Rattle.seeded_order.proofs.WordLaws.{drawn_more}
use Rattle.seeded_order.proofs.insertion.keyed_ids.Goals as goal

pub loop-id-preserved : goal.loop-id-preserved
loop-id-preserved c =
    let more = drawn_more c.args.seed 1 c.loop-id.id _ _ _ (λ id w. (w, id)) _ _ _ c.next_word.ensures c.loop-id.invariant.words c.loop-id.invariant.keys c.in_ok-push.ensures.items refl in
    record { words = more.0; keys = more.1 }
