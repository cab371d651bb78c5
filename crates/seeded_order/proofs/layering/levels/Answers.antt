use Rattle.seeded_order.specs.Levels.{level_of}
use Rattle.seeded_order.proofs.WordLaws.{drawn_more}
use Rattle.seeded_order.proofs.layering.levels.Goals as goal

pub loop-id-preserved : goal.loop-id-preserved
loop-id-preserved c =
    let more = drawn_more c.args.seed 2 c.loop-id._id _ _ _ (λ _ w. level_of c.args.bits c.args.max w) _ _ _ c.next_word.ensures c.loop-id.invariant.words c.loop-id.invariant.list c.in_ok-push.ensures.items c.level.ensures.value in
    record { words = more.0; list = more.1 }
